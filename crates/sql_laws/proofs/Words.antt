-- Words, signs and blanks as parts of a text.
use Rattle.std.proofs.Common.{◌≡◌, ◌+◌, ◌∙◌, inl, inr, sym, ap, refl, ℕ, true, List, [], ◌∷◌, ◌++◌, length, codes, arith}
use Rattle.std.specs.List.{list_all}
use Rattle.std.proofs.lemmas.Bool.{and_parts}
use Rattle.std.proofs.lemmas.List.{append-nil, length-append}
use Rattle.sql_ast.specs.Bytes.{is_word_byte, is_word_start, lower}
use Rattle.sql_ast.specs.Tokens.{after_keyword, after_sign, tokens_from}
use Rattle.sql_ast.specs.Words.{keyword_of}
use Rattle.sql_ast.specs.declared.lexer.Reading.{Reading}
use Rattle.sql_ast.specs.declared.places.Last.{Last}
use Rattle.sql_ast.specs.declared.places.Last.TheVariants.{Other, UnaryMinus}
use Rattle.sql_ast.specs.declared.places.LexerState.{LexerState}
use Rattle.sql_ast.specs.declared.places.LexerState.TheVariants as place
use Rattle.sql_ast.specs.declared.signs.Sign.{Sign}
use Rattle.sql_ast.specs.declared.signs.Sign.TheVariants as sign
use Rattle.sql_ast.specs.declared.tokens.Token.{Token}
use Rattle.sql_ast.specs.declared.tokens.TokenKind.TheVariants as kind
use Rattle.sql_ast.specs.declared.words.Keyword.TheVariants as word
use Rattle.sql_ast.specs.declared.pieces.Piece.{Piece}
use Rattle.sql_ast.specs.declared.pieces.Piece.TheVariants as piece
use Rattle.sql_ast.specs.Values.{canonical_value, canonical_word}
use Rattle.sql_laws.specs.Spelling.{key, mark}
use Rattle.sql_laws.specs.Written.{is_word}
use Rattle.sql_laws.proofs.Lexing.{Any, Closes, Lexes, LexesTo, Stops, between, closes, goes, joined, one_token, one_token_to, opens, same_pieces, token_at}
use Rattle.sql_laws.proofs.Marks.{AfterExpr, EndsWord, at_end, after_x, begins_word, ends_word, ends_x, on_word}

-- within a word
abbrev in_word : LexerState → ℕ → List ℕ → Last → List Token → Reading
in_word place start held last done = record { place = place; start = start; held = held; value = 0; digits = 0; last = last; done = done }

-- no word goes on with these bytes
abbrev pub AfterWord : List ℕ → Type 0
AfterWord [] = Unit {0}
AfterWord (byte ∷ bytes) = EndsWord byte

stops_word : (rest : List ℕ) → AfterWord rest → Stops place.InWord rest
stops_word [] after = tt
stops_word (byte ∷ bytes) after = ends_word byte after

stops_x : (rest : List ℕ) → AfterWord rest → Stops place.AfterX rest
stops_x [] after = tt
stops_x (byte ∷ bytes) after = ends_x byte after

-- what is left of a word, up to its end
rest_of_word : (bytes : List ℕ) → list_all is_word_byte bytes ≡ true → (at : ℕ) (rest : List ℕ) (start : ℕ) (held : List ℕ) (last : Last) (done : List Token) → AfterWord rest
    → (after : Last) × (tokens_from at (bytes ++ rest) (in_word place.InWord start held last done) ≡ tokens_from (at + length bytes) rest (between start after (done ++ token_at kind.Word start (at + length bytes) ∷ [])))
rest_of_word [] word at rest start held last done after =
    let here : at ≡ at + 0 = omega arith in (
      after_keyword (keyword_of held),
      closes at rest (in_word place.InWord start held last done) start (after_keyword (keyword_of held)) (done ++ token_at kind.Word start at ∷ []) refl (stops_word rest after)
          ∙ ap (λ n. tokens_from n rest (between start (after_keyword (keyword_of held)) (done ++ token_at kind.Word start n ∷ []))) here,
    )
rest_of_word (byte ∷ bytes) word at rest start held last done after =
    let parts = and_parts (is_word_byte byte) (list_all is_word_byte bytes) word in
    let others = rest_of_word bytes parts.1 (at + 1) rest start (held ++ lower byte ∷ []) last done after in
    let here : at + 1 + length bytes ≡ at + length (byte ∷ bytes) = omega arith in (
      others.0,
      goes at byte (bytes ++ rest) place.InWord (in_word place.InWord start held last done) (on_word byte parts.0) ∙ others.1
          ∙ ap (λ n. tokens_from n rest (between start others.0 (done ++ token_at kind.Word start n ∷ []))) here,
    )

-- behind an x
rest_of_x : (bytes : List ℕ) → list_all is_word_byte bytes ≡ true → (at : ℕ) (rest : List ℕ) (start : ℕ) (held : List ℕ) (last : Last) (done : List Token) → AfterWord rest
    → (after : Last) × (tokens_from at (bytes ++ rest) (in_word place.AfterX start held last done) ≡ tokens_from (at + length bytes) rest (between start after (done ++ token_at kind.Word start (at + length bytes) ∷ [])))
rest_of_x [] word at rest start held last done after =
    let here : at ≡ at + 0 = omega arith in (
      after_keyword (keyword_of held),
      closes at rest (in_word place.AfterX start held last done) start (after_keyword (keyword_of held)) (done ++ token_at kind.Word start at ∷ []) refl (stops_x rest after)
          ∙ ap (λ n. tokens_from n rest (between start (after_keyword (keyword_of held)) (done ++ token_at kind.Word start n ∷ []))) here,
    )
rest_of_x (byte ∷ bytes) word at rest start held last done after =
    let parts = and_parts (is_word_byte byte) (list_all is_word_byte bytes) word in
    let others = rest_of_word bytes parts.1 (at + 1) rest start (held ++ lower byte ∷ []) last done after in
    let here : at + 1 + length bytes ≡ at + length (byte ∷ bytes) = omega arith in (
      others.0,
      goes at byte (bytes ++ rest) place.InWord (in_word place.AfterX start held last done) (after_x byte parts.0) ∙ others.1
          ∙ ap (λ n. tokens_from n rest (between start others.0 (done ++ token_at kind.Word start n ∷ []))) here,
    )

word_closes : (word : List ℕ) → is_word word ≡ true → (at : ℕ) (rest : List ℕ) (start : ℕ) (last : Last) (done : List Token) → AfterWord rest → Closes kind.Word word at rest start last done
word_closes [] is at rest start last done after = absurd (cc)
word_closes (byte ∷ bytes) is at rest start last done after =
    let parts = and_parts (is_word_start byte) (list_all is_word_byte bytes) is in
    let begins = begins_word byte parts.0 in
    let here : at + 1 + length bytes ≡ at + length (byte ∷ bytes) = omega arith in
    elim begins.1 as (λ b. Closes kind.Word (byte ∷ bytes) at rest start last done) [
      | inl x ↦
          let others = rest_of_x bytes parts.1 (at + 1) rest at (lower byte ∷ []) last done after in
          (others.0, opens at byte (bytes ++ rest) place.AfterX start last done begins.0 x ∙ others.1 ∙ ap (λ n. tokens_from n rest (between at others.0 (done ++ token_at kind.Word at n ∷ []))) here)
      | inr other ↦
          let others = rest_of_word bytes parts.1 (at + 1) rest at (lower byte ∷ []) last done after in
          (others.0, opens at byte (bytes ++ rest) place.InWord start last done begins.0 other ∙ others.1 ∙ ap (λ n. tokens_from n rest (between at others.0 (done ++ token_at kind.Word at n ∷ []))) here)
    ]

pub word_lexes : (word : List ℕ) → is_word word ≡ true → Lexes Any AfterWord word (canonical_word word ∷ [])
word_lexes word is =
    one_token Any AfterWord kind.Word word (λ at rest start last done before after. word_closes word is at rest start last done after)

pub end_of_word : (rest : List ℕ) → AfterExpr rest → AfterWord rest
end_of_word [] after = tt
end_of_word (byte ∷ bytes) after = at_end EndsWord (record { other = refl; quote = refl }) (record { other = refl; quote = refl }) (record { other = refl; quote = refl }) byte after

-- a space
pub blank_to : (To : Last → Type 0) → LexesTo To Any To (codes " ") []
blank_to To front rest start last done before after = (
  record {
    start_after = start;
    last_after = last;
    new = [];
    runs = ap (λ n. tokens_from n rest (between start last done)) (sym (length-append front (codes " "))) ∙ ap (λ d. tokens_from (length (front ++ codes " ")) rest (between start last d)) (sym (append-nil done));
    pieces = refl;
  },
  before,
)

pub blank : Lexes Any Any (codes " ") []
blank front rest start last done before after = (blank_to Any front rest start last done tt tt).0

-- behind a sign
abbrev in_sign : Sign → ℕ → Last → List Token → Reading
in_sign sign start last done = record { place = place.AfterSign sign; start = start; held = []; value = 0; digits = 0; last = last; done = done }

sign_to : (Before : Last → Type 0) (After : List ℕ → Type 0) (To : Last → Type 0) (bytes : List ℕ) (s : Sign)
    → ((at : ℕ) (rest : List ℕ) (start : ℕ) (last : Last) (done : List Token) → tokens_from at (bytes ++ rest) (between start last done) ≡ tokens_from (at + length bytes) rest (in_sign s at last done))
    → ((rest : List ℕ) → After rest → Stops (place.AfterSign s) rest) → ((last : Last) → Before last → To (after_sign s last))
    → LexesTo Before After To bytes (canonical_value kind.Sign bytes ∷ [])
sign_to Before After To bytes s reads stops to =
    one_token_to Before After To kind.Sign bytes (λ at rest start last done before after. (
      (
        after_sign s last,
        reads at rest start last done
            ∙ closes (at + length bytes) rest (in_sign s at last done) at (after_sign s last) (done ++ token_at kind.Sign at (at + length bytes) ∷ []) refl (stops rest after),
      ),
      to last before,
    ))

-- a sign that no other begins with
abbrev IsWhole : Sign → Type 0
IsWhole s = (byte : ℕ) (bytes : List ℕ) → Stops (place.AfterSign s) (byte ∷ bytes)

stops_whole : (s : Sign) → IsWhole s → (rest : List ℕ) → Stops (place.AfterSign s) rest
stops_whole s whole [] = tt
stops_whole s whole (byte ∷ bytes) = whole byte bytes

pub open_to : LexesTo Any Any (λ last. last ≡ Other) (codes "(") (mark sign.OpenParenthesis ∷ [])
open_to = sign_to Any Any (λ last. last ≡ Other) (codes "(") sign.OpenParenthesis (λ at rest start last done. refl) (λ rest after. stops_whole sign.OpenParenthesis (λ byte bytes. refl) rest) (λ last before. refl)

pub minus_to : LexesTo (λ last. last ≡ Other) Any (λ last. last ≡ UnaryMinus) (codes "-") (mark sign.Minus ∷ [])
minus_to =
    sign_to (λ last. last ≡ Other) Any (λ last. last ≡ UnaryMinus) (codes "-") sign.Minus (λ at rest start last done. refl) (λ rest after. stops_whole sign.Minus (λ byte bytes. refl) rest)
    (λ last before. ap (after_sign sign.Minus) before)

whole_sign : (bytes : List ℕ) (s : Sign)
    → ((at : ℕ) (rest : List ℕ) (start : ℕ) (last : Last) (done : List Token) → tokens_from at (bytes ++ rest) (between start last done) ≡ tokens_from (at + length bytes) rest (in_sign s at last done))
    → IsWhole s → Lexes Any Any bytes (canonical_value kind.Sign bytes ∷ [])
whole_sign bytes s reads whole front rest start last done before after =
    (sign_to Any Any Any bytes s reads (λ more a. stops_whole s whole more) (λ l b. tt) front rest start last done tt tt).0

two_more : (at : ℕ) (rest : List ℕ) (reading : Reading) → tokens_from (at + 1 + 1) rest reading ≡ tokens_from (at + 2) rest reading
two_more at rest reading = let e : at + 1 + 1 ≡ at + 2 = omega arith in ap (λ n. tokens_from n rest reading) e

pub open_ : Lexes Any Any (codes "(") (mark sign.OpenParenthesis ∷ [])
open_ = whole_sign (codes "(") sign.OpenParenthesis (λ at rest start last done. refl) (λ byte bytes. refl)

pub close : Lexes Any Any (codes ")") (mark sign.CloseParenthesis ∷ [])
close = whole_sign (codes ")") sign.CloseParenthesis (λ at rest start last done. refl) (λ byte bytes. refl)

pub comma : Lexes Any Any (codes ",") (mark sign.Comma ∷ [])
comma = whole_sign (codes ",") sign.Comma (λ at rest start last done. refl) (λ byte bytes. refl)

pub point : Lexes Any Any (codes ".") (mark sign.Point ∷ [])
point = whole_sign (codes ".") sign.Point (λ at rest start last done. refl) (λ byte bytes. refl)

pub star : Lexes Any Any (codes "*") (mark sign.Star ∷ [])
star = whole_sign (codes "*") sign.Star (λ at rest start last done. refl) (λ byte bytes. refl)

pub plus : Lexes Any Any (codes "+") (mark sign.Plus ∷ [])
plus = whole_sign (codes "+") sign.Plus (λ at rest start last done. refl) (λ byte bytes. refl)

pub minus : Lexes Any Any (codes "-") (mark sign.Minus ∷ [])
minus = whole_sign (codes "-") sign.Minus (λ at rest start last done. refl) (λ byte bytes. refl)

pub equal : Lexes Any Any (codes "=") (mark sign.Equal ∷ [])
equal = whole_sign (codes "=") sign.Equal (λ at rest start last done. refl) (λ byte bytes. refl)

pub not_equal : Lexes Any Any (codes "<>") (mark sign.NotEqual ∷ [])
not_equal = whole_sign (codes "<>") sign.NotEqual (λ at rest start last done. two_more at rest (in_sign sign.NotEqual at last done)) (λ byte bytes. refl)

pub at_most : Lexes Any Any (codes "<=") (mark sign.AtMost ∷ [])
at_most = whole_sign (codes "<=") sign.AtMost (λ at rest start last done. two_more at rest (in_sign sign.AtMost at last done)) (λ byte bytes. refl)

pub at_least : Lexes Any Any (codes ">=") (mark sign.AtLeast ∷ [])
at_least = whole_sign (codes ">=") sign.AtLeast (λ at rest start last done. two_more at rest (in_sign sign.AtLeast at last done)) (λ byte bytes. refl)

pub at_at : Lexes Any Any (codes "@@") (mark sign.AtAt ∷ [])
at_at = whole_sign (codes "@@") sign.AtAt (λ at rest start last done. two_more at rest (in_sign sign.AtAt at last done)) (λ byte bytes. refl)

-- signs that another begins with, before what that doesn't go on with
pub less : Lexes Any (Stops (place.AfterSign sign.Less)) (codes "<") (mark sign.Less ∷ [])
less front rest start last done before after =
    (sign_to Any (Stops (place.AfterSign sign.Less)) Any (codes "<") sign.Less (λ at more from read found. refl) (λ more a. a) (λ l b. tt) front rest start last done tt after).0

pub greater : Lexes Any (Stops (place.AfterSign sign.Greater)) (codes ">") (mark sign.Greater ∷ [])
greater front rest start last done before after =
    (sign_to Any (Stops (place.AfterSign sign.Greater)) Any (codes ">") sign.Greater (λ at more from read found. refl) (λ more a. a) (λ l b. tt) front rest start last done tt after).0

-- one token with a space on each side
pub spaced : (After : List ℕ → Type 0) (s : List ℕ) (ps : List Piece) → Lexes Any After s ps → ((rest : List ℕ) → After (32 ∷ rest)) → Lexes Any Any (codes " " ++ s ++ codes " ") (ps ++ [])
spaced After s ps lexes ends =
    joined Any After Any (codes " " ++ s) (codes " ") ps [] (joined Any Any After (codes " ") s [] ps blank lexes (λ rest after. tt)) blank (λ rest after. ends rest)

-- a word before what ends it
word_then : (w s : List ℕ) (p : Piece) (ps : List Piece) → is_word w ≡ true → canonical_word w ≡ p → Lexes Any Any s ps → ((rest : List ℕ) → AfterWord (s ++ rest))
    → Lexes Any Any (w ++ s) (p ∷ ps)
word_then w s p ps is said lexes ends =
    same_pieces Any Any (w ++ s) (canonical_word w ∷ ps) (p ∷ ps) (ap (λ q. q ∷ ps) said) (joined Any AfterWord Any w s (canonical_word w ∷ []) ps (word_lexes w is) lexes (λ rest after. ends rest))

-- " AND "
spaced_word : (w : List ℕ) (p : Piece) → is_word w ≡ true → canonical_word w ≡ p → Lexes Any Any (codes " " ++ w ++ codes " ") (p ∷ [])
spaced_word w p is said =
    same_pieces Any Any (codes " " ++ w ++ codes " ") (canonical_word w ∷ []) (p ∷ []) (ap (λ q. q ∷ []) said)
    (spaced AfterWord w (canonical_word w ∷ []) (word_lexes w is) (λ rest. record { other = refl; quote = refl }))

pub and_ : Lexes Any Any (codes " AND ") (key word.And ∷ [])
and_ = spaced_word (codes "AND") (key word.And) refl refl

pub or_ : Lexes Any Any (codes " OR ") (key word.Or ∷ [])
or_ = spaced_word (codes "OR") (key word.Or) refl refl

-- "(NOT "
pub open_not : Lexes Any Any (codes "(NOT ") (mark sign.OpenParenthesis ∷ key word.Not ∷ [])
open_not =
    joined Any Any Any (codes "(") (codes "NOT ") (mark sign.OpenParenthesis ∷ []) (key word.Not ∷ []) open_
    (word_then (codes "NOT") (codes " ") (key word.Not) [] refl refl blank (λ rest. record { other = refl; quote = refl })) (λ rest after. tt)

-- " IN ("
pub in_open : Lexes Any Any (codes " IN (") (key word.In ∷ mark sign.OpenParenthesis ∷ [])
in_open =
    joined Any Any Any (codes " IN ") (codes "(") (key word.In ∷ []) (mark sign.OpenParenthesis ∷ []) (spaced_word (codes "IN") (key word.In) refl refl) open_ (λ rest after. tt)

-- "NULL)"
null_close : Lexes Any Any (codes "NULL)") (key word.Null ∷ mark sign.CloseParenthesis ∷ [])
null_close = word_then (codes "NULL") (codes ")") (key word.Null) (mark sign.CloseParenthesis ∷ []) refl refl close (λ rest. record { other = refl; quote = refl })

-- " IS NULL)" and " IS NOT NULL)"
pub is_null_close : Lexes Any Any (codes " IS NULL)") (key word.Is ∷ key word.Null ∷ mark sign.CloseParenthesis ∷ [])
is_null_close =
    joined Any Any Any (codes " IS ") (codes "NULL)") (key word.Is ∷ []) (key word.Null ∷ mark sign.CloseParenthesis ∷ []) (spaced_word (codes "IS") (key word.Is) refl refl) null_close (λ rest after. tt)

pub is_not_null_close : Lexes Any Any (codes " IS NOT NULL)") (key word.Is ∷ key word.Not ∷ key word.Null ∷ mark sign.CloseParenthesis ∷ [])
is_not_null_close =
    joined Any Any Any (codes " IS ") (codes "NOT NULL)") (key word.Is ∷ []) (key word.Not ∷ key word.Null ∷ mark sign.CloseParenthesis ∷ []) (spaced_word (codes "IS") (key word.Is) refl refl)
    (word_then (codes "NOT") (codes " NULL)") (key word.Not) (key word.Null ∷ mark sign.CloseParenthesis ∷ []) refl refl
    (joined Any Any Any (codes " ") (codes "NULL)") [] (key word.Null ∷ mark sign.CloseParenthesis ∷ []) blank null_close (λ rest after. tt)) (λ rest. record { other = refl; quote = refl }))
    (λ rest after. tt)

-- "COUNT("
pub call_open : (w : List ℕ) (name : List ℕ) → is_word w ≡ true → canonical_word w ≡ piece.Word name → Lexes Any Any (w ++ codes "(") (piece.Word name ∷ mark sign.OpenParenthesis ∷ [])
call_open w name is said = word_then w (codes "(") (piece.Word name) (mark sign.OpenParenthesis ∷ []) is said open_ (λ rest. record { other = refl; quote = refl })
