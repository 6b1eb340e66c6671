-- The value of a token, read from its bytes.
--
-- A token that no text has gets a value too: what is cut short or isn't there counts as nothing.
use Rattle.std.specs.Prelude.{ℕ, Bool, ◌==◌, ◌+◌, ◌-◌, ◌*◌, ◌^◌, List, [], ◌∷◌, ◌++◌, length, take, drop, map, min, position, unwrap_or, Option, Some, None, if◌then◌else◌}
use Rattle.std.specs.Str.{bytes_eq}
use Rattle.sql_ast.specs.Bytes.{escape, hex_value, lower}
use Rattle.sql_ast.specs.Words.{keyword_of, sign_of}
use Rattle.sql_ast.specs.declared.signs.Sign.TheVariants as sign
use Rattle.sql_ast.specs.declared.tokens.Token.{Token}
use Rattle.sql_ast.specs.declared.tokens.TokenKind.{TokenKind}
use Rattle.sql_ast.specs.declared.tokens.TokenKind.TheVariants as kind
use Rattle.sql_ast.specs.declared.words.Keyword.{Keyword}
use Rattle.sql_ast.specs.declared.pieces.Piece.{Piece}
use Rattle.sql_ast.specs.declared.pieces.Piece.TheVariants as piece

-- words: a reserved one is itself, any other a name, in lower case

abbrev pub lowered : List ℕ → List ℕ
lowered bytes = map lower bytes

abbrev pub word_by : Option Keyword → List ℕ → Piece
word_by (Some word) name = piece.Keyword word
word_by None name = piece.Word name

abbrev pub word : List ℕ → Piece
word bytes = word_by (keyword_of (lowered bytes)) (lowered bytes)

-- in a canonical text a word in lower case is a name, also where it is reserved
abbrev pub canonical_word : List ℕ → Piece
canonical_word bytes = if bytes_eq (lowered bytes) bytes then piece.Word (lowered bytes) else word bytes

-- the bytes between the first and the last
abbrev pub between : List ℕ → List ℕ
between bytes = drop 1 (take (length bytes - 1) bytes)

abbrev pub quoted : List ℕ → Piece
quoted bytes = piece.Quoted (lowered (between bytes))

-- strings: behind a backslash stands an escape, and behind a quote one that is doubled; the closing quote has nothing behind it

abbrev pub string_from : ℕ → List ℕ → List ℕ
string_from quote (first ∷ second ∷ bytes) =
    if first == 92 then escape second ++ string_from quote bytes else (
    if first == quote then second ∷ string_from quote bytes else
    first ∷ string_from quote (second ∷ bytes))
string_from quote bytes = []

abbrev pub string : List ℕ → List ℕ
string (quote ∷ bytes) = string_from quote bytes
string [] = []

-- byte strings: two hex digits are a byte

abbrev pub hex_digit : ℕ → ℕ
hex_digit byte = unwrap_or (hex_value byte) 0

abbrev pub hex_bytes : List ℕ → List ℕ
hex_bytes (high ∷ low ∷ bytes) = (16 * hex_digit high + hex_digit low) ∷ hex_bytes bytes
hex_bytes bytes = []

-- numbers: one that 64 bits don't hold is the greatest that they do

abbrev pub with_digit : ℕ → ℕ → ℕ
with_digit value digit = min (10 * value + (digit - 48)) (2 ^ 64 - 1)

-- the number that is written by the digits of `value` and these
abbrev pub number_from : ℕ → List ℕ → ℕ
number_from value [] = value
number_from value (digit ∷ digits) = number_from (with_digit value digit) digits

abbrev pub is_point : ℕ → Bool
is_point byte = byte == 46

-- all digits as a number, and how many of them stand behind the point
abbrev pub pointed : List ℕ → List ℕ → Piece
pointed whole fraction = piece.Decimal (number_from (number_from 0 whole) fraction) (min (length fraction) 255)

abbrev pub decimal_by : Option ℕ → List ℕ → Piece
decimal_by (Some at) bytes = pointed (take at bytes) (drop 1 (drop at bytes))
decimal_by None bytes = pointed bytes []

abbrev pub decimal : List ℕ → Piece
decimal bytes = decimal_by (position is_point bytes) bytes

-- a token's bytes as a piece

abbrev pub value : TokenKind → List ℕ → Piece
value kind.Word bytes = word bytes
value kind.Quoted bytes = quoted bytes
value kind.Text bytes = piece.Text (string bytes)
value kind.Bytes bytes = piece.Bytes (hex_bytes (drop 2 bytes))
value kind.Whole bytes = piece.Whole (number_from 0 bytes)
value kind.Decimal bytes = decimal bytes
value kind.Sign bytes = piece.Sign (unwrap_or (sign_of bytes) sign.Semicolon)

abbrev pub slice : List ℕ → Token → List ℕ
slice text token = drop token.start (take token.end text)

abbrev pub piece_of : List ℕ → Token → Piece
piece_of text token = value token.kind (slice text token)

-- the pieces of a text that has these tokens
abbrev pub pieces_of : List ℕ → List Token → List Piece
pieces_of text tokens = map (piece_of text) tokens

-- the same of a canonical text

abbrev pub canonical_value : TokenKind → List ℕ → Piece
canonical_value kind.Word bytes = canonical_word bytes
canonical_value other bytes = value other bytes

abbrev pub canonical_piece_of : List ℕ → Token → Piece
canonical_piece_of text token = canonical_value token.kind (slice text token)

abbrev pub canonical_pieces_of : List ℕ → List Token → List Piece
canonical_pieces_of text tokens = map (canonical_piece_of text) tokens
