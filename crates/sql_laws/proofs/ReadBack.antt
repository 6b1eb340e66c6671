-- The text of an expression is read back.
use Rattle.std.proofs.Common.{◌≡◌, ◌≤◌, ◌∙◌, sym, ap, refl, ℕ, suc, true, false, List, [], ◌++◌, Result, Ok, arith}
use Rattle.std.proofs.lemmas.List.{append-nil}
use Rattle.sql_ast.specs.Tokens.{tokens}
use Rattle.sql_ast.specs.declared.expressions.Expr.{Expr}
use Rattle.sql_ast.specs.declared.faults.Refusal.{Refusal}
use Rattle.sql_ast.specs.declared.places.Last.TheVariants.{Other}
use Rattle.sql_ast.specs.declared.tokens.Token.{Token}
use Rattle.sql_ast.specs.declared.pieces.Piece.{Piece}
use Rattle.sql_grammar.specs.Expressions.{any, expression}
use Rattle.sql_grammar.specs.Reading.{Outcome, sees}
use Rattle.sql_grammar.specs.Checking.{all_of, expression_by}
use Rattle.sql_ast.specs.Values.{canonical_pieces_of}
use Rattle.sql_text.specs.Canon.{text}
use Rattle.sql_laws.specs.Spelling.{deepest, is_tree}
use Rattle.sql_laws.specs.Canonical.{canonical, ends_canonical, paired}
use Rattle.sql_laws.specs.CanonicalLaws.{HasPieces, ReadsText, SaysOneThing}
use Rattle.sql_laws.proofs.Canons.{text_lexes}
use Rattle.sql_laws.proofs.Pieces.{reads_pieces_at}

pub has_pieces : HasPieces
has_pieces x written =
    let lexed = text_lexes x false written [] [] 0 Other [] tt tt in
    let whole : text x ++ [] ≡ text x = append-nil (text x) in (
      lexed.new,
      (
        ap tokens (sym whole) ∙ lexed.runs,
        ap (λ s. canonical_pieces_of s lexed.new) (sym whole) ∙ lexed.pieces,
      ),
    )

-- nothing follows
ends_here : ends_canonical [] ≡ true
unfolding sees
ends_here = refl

alone_at : (depth : ℕ) (x : Expr) → is_tree x ≡ true → deepest 0 (canonical x) ≤ depth → expression (suc depth) (canonical x) ≡ Ok (paired x, [])
alone_at depth x tree few = ap (expression (suc depth)) (sym (append-nil (canonical x))) ∙ reads_pieces_at depth x [] tree few ends_here

pub reads_text : ReadsText
unfolding any
reads_text x tree written few =
    let pieces = has_pieces x written in
    ap (expression_by (text x)) pieces.1.0 ∙ ap (λ ps. all_of (expression 65 ps)) pieces.1.1 ∙ ap all_of (alone_at 64 x tree few)

same_tokens : (r : Result (List Token) Refusal) (found others : List Token) → r ≡ Ok found → r ≡ Ok others → found ≡ others
same_tokens r found others one two = cc

same_read : (o : Outcome Expr) (x y : Expr) → o ≡ Ok (x, []) → o ≡ Ok (y, []) → x ≡ y
same_read o x y one two =
    let pair : Path (Expr × List Piece) (x, []) (y, []) = cc in
    ap (λ p. p.0) pair

pub says_one_thing : SaysOneThing
says_one_thing x y tree_x tree_y written_x written_y same =
    let one = has_pieces x written_x in
    let two = has_pieces y written_y in
    let tokens_same : one.0 ≡ two.0 = same_tokens (tokens (text x)) one.0 two.0 one.1.0 (ap tokens same ∙ two.1.0) in
    let pieces_same : canonical x ≡ canonical y =
    sym one.1.1 ∙ ap (canonical_pieces_of (text x)) tokens_same ∙ ap (λ s. canonical_pieces_of s two.0) same ∙ two.1.1 in
    let depth = deepest 0 (canonical x) in
    let few : deepest 0 (canonical y) ≤ depth = omega (arith, ap (deepest 0) pieces_same) in
    same_read (expression (suc depth) (canonical x)) (paired x) (paired y) (alone_at depth x tree_x (omega arith))
    (ap (expression (suc depth)) pieces_same ∙ alone_at depth y tree_y few)
