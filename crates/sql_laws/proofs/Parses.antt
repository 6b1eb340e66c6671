-- Whatever statement a text is, it is sound.
use Rattle.std.proofs.Common.{◌≡◌, ◌∙◌, sym, ap, refl, ℕ, true, false, cond, List, Result, Ok, Err}
use Rattle.sql_ast.specs.Tokens.{and_then, tokens}
use Rattle.sql_ast.specs.declared.faults.Refusal.{Refusal}
use Rattle.sql_ast.specs.declared.statements.Statement.{Statement}
use Rattle.sql_ast.specs.declared.tokens.Token.{Token}
use Rattle.sql_ast.specs.declared.pieces.Piece.{Piece}
use Rattle.sql_parse.specs.Openings.{is_hopeless}
use Rattle.sql_parse.specs.Parsing.{is_misused, judged, placed, refused, statement_by, statement_in}
use Rattle.sql_ast.specs.Values.{pieces_of}
use Rattle.sql_rules.specs.Outside.{outside}
use Rattle.sql_statements.specs.Statements.{statement_of}
use Rattle.sql_laws.proofs.ReadTokens.{tokens_are_given}
use Rattle.sql_laws.specs.SoundLaws.{ParsesSound}
use Rattle.sql_laws.specs.Sound.{is_sound}
use Rattle.sql_laws.proofs.Statements.{reads_sound}

abbrev Inside : Statement → Type 0
Inside s = outside s ≡ false

abbrev Judged : Statement → Statement → Type 0
Judged x s = (x ≡ s) × (outside x ≡ false)

judged_is : (x s : Statement) → judged x ≡ Ok s → Judged x s
judged_is x s e =
    elim (outside x) as (λ b. outside x ≡ b → Path (Result Statement Refusal) (cond b (refused 9013) (cond (is_misused x) (refused 9008) (Ok x))) (Ok s) → Judged x s) [
      | true ↦ λ is f. absurd (cc)
      | false ↦ λ is f. elim (is_misused x) as (λ b. Path (Result Statement Refusal) (cond b (refused 9008) (Ok x)) (Ok s) → Judged x s) [
        | true ↦ λ g. absurd (cc)
        | false ↦ λ g. let same : x ≡ s = cc in (same, is)
      ] f
    ] refl e

module _ (text : List ℕ) (s : Statement) where
  abbrev Goal : Type 0
  Goal = (outside s ≡ false) × (is_sound s ≡ true)

  by_read : (found : List Token) (pieces : List Piece) (o : Result Statement ℕ) → statement_of pieces ≡ o → ((x : Statement) → statement_of pieces ≡ Ok x → is_sound x ≡ true)
      → and_then (placed text found o) judged ≡ Ok s → Goal
  by_read found pieces (Ok x) is sound e = let j = judged_is x s e in (ap outside (sym j.0) ∙ j.1, ap is_sound (sym j.0) ∙ sound x is)
  by_read found pieces (Err left) is sound e = absurd (cc)

  by_pieces : (found : List Token) (pieces : List Piece) → ((x : Statement) → statement_of pieces ≡ Ok x → is_sound x ≡ true) → statement_by text found pieces ≡ Ok s → Goal
  by_pieces found pieces sound e =
      elim (is_hopeless pieces) as (λ b. Path (Result Statement Refusal) (cond b (refused 9013) (and_then (placed text found (statement_of pieces)) judged)) (Ok s) → Goal) [
        | true ↦ λ f. absurd (cc)
        | false ↦ λ f. by_read found pieces (statement_of pieces) refl sound f
      ] e

  by_tokens : (o : Result (List Token) Refusal) → ((found : List Token) → o ≡ Ok found → statement_in text found ≡ Ok s → Goal) → and_then o (statement_in text) ≡ Ok s → Goal
  by_tokens (Ok found) goes e = goes found refl e
  by_tokens (Err refusal) goes e = absurd (cc)

pub parses_sound : ParsesSound
parses_sound text s utf8 e =
    by_tokens text s (tokens text)
    (λ found is f. by_pieces text s found (pieces_of text found) (λ x read. reads_sound (pieces_of text found) x (tokens_are_given text found utf8 is) read) f) e
