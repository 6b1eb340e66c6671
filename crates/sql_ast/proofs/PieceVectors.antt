-- Pieces, computed on texts whose tokens and values are known.
use Rattle.std.proofs.Common.{◌≡◌, refl, codes, ℕ, List, [], ◌∷◌, Result, Ok, Err}
use Rattle.sql_ast.specs.Tokens.{tokens}
use Rattle.sql_ast.specs.declared.faults.Refusal.{Refusal}
use Rattle.sql_ast.specs.declared.signs.Sign.TheVariants as sign
use Rattle.sql_ast.specs.declared.tokens.Token.{Token}
use Rattle.sql_ast.specs.declared.tokens.TokenKind.TheVariants as kind
use Rattle.sql_ast.specs.declared.words.Keyword.TheVariants as key
use Rattle.sql_ast.specs.declared.pieces.Piece.{Piece}
use Rattle.sql_ast.specs.declared.pieces.Piece.TheVariants as piece
use Rattle.sql_ast.specs.Values.{pieces_of, canonical_pieces_of, string, value}

abbrev pieces_in : List ℕ → Result (List Token) Refusal → List Piece
pieces_in text (Ok found) = pieces_of text found
pieces_in text (Err refusal) = []

abbrev pieces : List ℕ → List Piece
pieces text = pieces_in text (tokens text)

-- words: reserved in any case; others, and all in backquotes, are names in lower case

words : pieces (codes "SeLeCt Abc_1 offset `SELECT` `aB`") ≡ piece.Keyword key.Select ∷ piece.Word (codes "abc_1") ∷ piece.Word (codes "offset")
    ∷ piece.Quoted (codes "select") ∷ piece.Quoted (codes "ab") ∷ []
words = refl

-- in a canonical text only a word in capitals is reserved

abbrev canonical_pieces_in : List ℕ → Result (List Token) Refusal → List Piece
canonical_pieces_in text (Ok found) = canonical_pieces_of text found
canonical_pieces_in text (Err refusal) = []

canonical_words : (let text = codes "and AND active_branch COUNT 'A'" in canonical_pieces_in text (tokens text)) ≡ piece.Word (codes "and") ∷ piece.Keyword key.And
    ∷ piece.Word (codes "active_branch") ∷ piece.Word (codes "count") ∷ piece.Text (codes "A") ∷ []
canonical_words = refl

-- strings: the quote doubled or behind a backslash, the other quote as it is, and escapes in their case

quotes : pieces (codes "'a''b' \"a\"\"b\" '' '''' 'a\"\"b' 'a\\'b' \"\\\"\"") ≡ piece.Text (codes "a'b") ∷ piece.Text (codes "a\"b") ∷ piece.Text [] ∷ piece.Text (codes "'")
    ∷ piece.Text (codes "a\"\"b") ∷ piece.Text (codes "a'b") ∷ piece.Text (codes "\"") ∷ []
quotes = refl

escapes : string (codes "'\\n\\r\\t\\0\\b\\Z\\\\\\q\\N'") ≡ 10 ∷ 13 ∷ 9 ∷ 0 ∷ 8 ∷ 26 ∷ codes "\\qN"
escapes = refl

kept_backslashes : string (codes "'50\\% a\\_b\\\\%'") ≡ codes "50\\% a\\_b\\%"
kept_backslashes = refl

other_bytes : string (39 ∷ 195 ∷ 169 ∷ 92 ∷ 240 ∷ 159 ∷ 10 ∷ 39 ∷ []) ≡ 195 ∷ 169 ∷ 240 ∷ 159 ∷ 10 ∷ []
other_bytes = refl

-- byte strings, numbers, signs

byte_strings : pieces (codes "x'0aF9' X'' X'00fF'") ≡ piece.Bytes (10 ∷ 249 ∷ []) ∷ piece.Bytes [] ∷ piece.Bytes (0 ∷ 255 ∷ []) ∷ []
byte_strings = refl

numbers : pieces (codes "007 0 9223372036854775807,-9223372036854775808") ≡ piece.Whole 7 ∷ piece.Whole 0 ∷ piece.Whole 9223372036854775807
    ∷ piece.Sign sign.Comma
    ∷ piece.Sign sign.Minus ∷ piece.Whole 9223372036854775808 ∷ []
numbers = refl

decimals : pieces (codes "1.50 0.0 00.000000000000001 123456789.123456789 1.5.2") ≡ piece.Decimal 150 2 ∷ piece.Decimal 0 1 ∷ piece.Decimal 1 15
    ∷ piece.Decimal 123456789123456789 9 ∷ piece.Decimal 15 1 ∷ piece.Sign sign.Point ∷ piece.Whole 2 ∷ []
decimals = refl

points : pieces (codes "1. .5 1e5") ≡ piece.Whole 1 ∷ piece.Sign sign.Point ∷ piece.Sign sign.Point ∷ piece.Whole 5 ∷ piece.Whole 1 ∷ piece.Word (codes "e5") ∷ []
points = refl

signs : pieces (codes "( ) , . ; * + - = <> != < <= > >= @@") ≡ piece.Sign sign.OpenParenthesis ∷ piece.Sign sign.CloseParenthesis ∷ piece.Sign sign.Comma ∷ piece.Sign sign.Point
    ∷ piece.Sign sign.Semicolon ∷ piece.Sign sign.Star ∷ piece.Sign sign.Plus ∷ piece.Sign sign.Minus ∷ piece.Sign sign.Equal ∷ piece.Sign sign.NotEqual
    ∷ piece.Sign sign.NotEqual ∷ piece.Sign sign.Less ∷ piece.Sign sign.AtMost ∷ piece.Sign sign.Greater ∷ piece.Sign sign.AtLeast ∷ piece.Sign sign.AtAt ∷ []
signs = refl

-- what no text has: slices and numbers are cut, and a sign that is none fits nothing

cut_slices : (pieces_of (codes "ab") (record { kind = kind.Word; start = 1; end = 9 } ∷ record { kind = kind.Sign; start = 5; end = 4 } ∷ [])
    ≡ piece.Word (codes "b") ∷ piece.Sign sign.Semicolon ∷ [])
cut_slices = refl

cut_number : value kind.Whole (codes "18446744073709551616") ≡ piece.Whole 18446744073709551615
cut_number = refl
