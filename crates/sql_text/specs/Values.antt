-- The text of a value, in a column of its type.
use Rattle.std.specs.Prelude.{ℕ, ℤ, pos, negsuc, Bool, true, false, ◌==◌, ◌+◌, ◌-◌, ◌/◌, ◌%◌, ◌^◌, List, [], ◌∷◌, ◌++◌, length, codes, replicate, if◌then◌else◌}
use Rattle.std.specs.List.{join_with_byte, flat_map}
use Rattle.std.specs.Fmt.{decimal, signed_decimal}
use Rattle.hex.specs.Hex.{encode_lower}
use Rattle.tuple_codec.specs.declared.values.SqlType.{SqlType}
use Rattle.tuple_codec.specs.declared.values.SqlType.TheVariants as kind
use Rattle.tuple_codec.specs.declared.values.Value.{Value}
use Rattle.tuple_codec.specs.declared.values.Value.TheVariants as cell

-- a text between quotes: a quote, a backslash, a line feed, a carriage return and a zero byte are escaped
abbrev pub escaped_byte : ℕ → List ℕ
escaped_byte byte =
    if byte == 39 then codes "\\'" else (
    if byte == 92 then codes "\\\\" else (
    if byte == 10 then codes "\\n" else (
    if byte == 13 then codes "\\r" else (
    if byte == 0 then codes "\\0" else
    byte ∷ []))))

abbrev pub quoted : List ℕ → List ℕ
quoted bytes = codes "'" ++ flat_map escaped_byte bytes ++ codes "'"

abbrev pub byte_string : List ℕ → List ℕ
byte_string bytes = codes "X'" ++ encode_lower bytes ++ codes "'"

abbrev pub truth : Bool → List ℕ
truth true = codes "1"
truth false = codes "0"

-- a number in exactly so many digits
abbrev pub padded : ℕ → ℕ → List ℕ
padded width number = let text = decimal number in replicate (width - length text) 48 ++ text

-- a decimal with exactly its scale's digits behind the point
abbrev pub scaled : ℕ → ℕ → List ℕ
scaled scale number = if scale == 0 then decimal number else decimal (number / 10 ^ scale) ++ codes "." ++ padded scale (number % 10 ^ scale)

abbrev pub decimal_text : ℕ → ℤ → List ℕ
decimal_text scale (pos number) = scaled scale number
decimal_text scale (negsuc number) = codes "-" ++ scaled scale (number + 1)

abbrev pub scale_of : SqlType → ℕ
scale_of (kind.Decimal digits scale) = scale
scale_of type = 0

-- a value, in a column of this type
abbrev pub value_text : SqlType → Value → List ℕ
value_text type cell.Null = codes "NULL"
value_text type (cell.Int number) = signed_decimal number
value_text type (cell.Bool bit) = truth bit
value_text type (cell.Text text) = quoted text
value_text type (cell.Bytes bytes) = byte_string bytes
value_text type (cell.Decimal number) = decimal_text (scale_of type) number

-- a row's values, each in its column's type
abbrev pub value_texts : List SqlType → List Value → List (List ℕ)
value_texts [] values = []
value_texts kinds [] = []
value_texts (type ∷ kinds) (value ∷ values) = value_text type value ∷ value_texts kinds values

abbrev pub row_text : List SqlType → List Value → List ℕ
row_text kinds row = join_with_byte 44 (value_texts kinds row)
