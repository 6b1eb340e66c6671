-- What a canonical text is read as.
use Rattle.std.specs.Prelude.{◌≡◌, ◌≤◌, ℕ, suc, min, true, false, List, ◌++◌, Some, Ok}
use Rattle.sql_ast.specs.Tokens.{tokens}
use Rattle.sql_ast.specs.declared.expressions.Expr.{Expr}
use Rattle.sql_ast.specs.declared.places.Last.TheVariants.{Other}
use Rattle.sql_ast.specs.declared.tokens.Token.{Token}
use Rattle.sql_ast.specs.declared.pieces.Piece.{Piece}
use Rattle.sql_grammar.specs.Expressions.{any, expression}
use Rattle.sql_text.specs.Depths.{depth, is_deep}
use Rattle.sql_grammar.specs.Checking.{canonical_expression}
use Rattle.sql_ast.specs.Values.{canonical_pieces_of, pieces_of}
use Rattle.sql_text.specs.Canon.{text}
use Rattle.sql_laws.specs.Spelling.{deepest, is_tree}
use Rattle.tuple_codec.specs.Texts.{is_utf8}
use Rattle.sql_laws.specs.Canonical.{canonical, ends_canonical, paired}
use Rattle.sql_laws.specs.Sound.{is_expr}
use Rattle.sql_laws.specs.Written.{are_given, is_written}

-- pieces with at most so many open parentheses are read as what they say, and what can't go on is left
abbrev pub ReadsPiecesAt : ℕ → Type 0
ReadsPiecesAt limit = (x : Expr) (rest : List Piece) → is_tree x ≡ true → deepest 0 (canonical x) ≤ limit → ends_canonical rest ≡ true
    → expression (suc limit) (canonical x ++ rest) ≡ Ok (paired x, rest)

-- with at most 64
abbrev pub ReadsPieces : Type 0
ReadsPieces = (x : Expr) (rest : List Piece) → is_tree x ≡ true → deepest 0 (canonical x) ≤ 64 → ends_canonical rest ≡ true
    → any (canonical x ++ rest) ≡ Ok (paired x, rest)

-- the text of an expression has tokens, and these have its pieces
abbrev pub HasPieces : Type 0
HasPieces = (x : Expr) → is_written x ≡ true → (found : List Token) × ((tokens (text x) ≡ Ok found) × (canonical_pieces_of (text x) found ≡ canonical x))

-- its text is read as what it says, where at most 64 parentheses are open
abbrev pub ReadsText : Type 0
ReadsText = (x : Expr) → is_tree x ≡ true → is_written x ≡ true → deepest 0 (canonical x) ≤ 64 → canonical_expression (text x) ≡ Some (paired x)

-- what a canonical text says has that text
abbrev pub KeepsText : Type 0
KeepsText = (x : Expr) → text (paired x) ≡ text x

-- expressions of one text say one thing
abbrev pub SaysOneThing : Type 0
SaysOneThing = (x y : Expr) → is_tree x ≡ true → is_tree y ≡ true → is_written x ≡ true → is_written y ≡ true → text x ≡ text y → paired x ≡ paired y

-- so many parentheses are open at one place as `sql_text` counts, up to 65
abbrev pub CountsOpen : Type 0
CountsOpen = (x : Expr) → min (deepest 0 (canonical x)) 65 ≡ depth x

-- whatever is read of pieces that a text gives is written
abbrev pub ReadsWritten : Type 0
ReadsWritten = (depth : ℕ) (pieces rest : List Piece) (x : Expr) → are_given Other pieces ≡ true → expression depth pieces ≡ Ok (x, rest) → is_written x ≡ true

-- the pieces of a text's tokens are given
abbrev pub GivesPieces : Type 0
GivesPieces = (statement : List ℕ) (found : List Token) → is_utf8 statement ≡ true → tokens statement ≡ Ok found → are_given Other (pieces_of statement found) ≡ true

-- the text of an expression that a text can give is UTF-8, and read as what it says, where `sql_text` doesn't find it too deep
abbrev pub StoresText : Type 0
StoresText = (x : Expr) → is_expr x ≡ true → is_deep x ≡ false → (canonical_expression (text x) ≡ Some (paired x)) × (is_utf8 (text x) ≡ true)
