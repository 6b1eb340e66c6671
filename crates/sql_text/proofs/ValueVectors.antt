-- Values whose texts are known.
use Rattle.std.proofs.Common.{◌≡◌, refl, codes, [], ◌∷◌, ◌++◌, pos, negsuc, true, false}
use Rattle.std.specs.Fmt.{digits}
use Rattle.hex.specs.Hex.{encode_with}
use Rattle.tuple_codec.specs.declared.values.SqlType.TheVariants as kind
use Rattle.tuple_codec.specs.declared.values.Value.TheVariants as cell
use Rattle.sql_text.specs.Values.{byte_string, quoted, row_text, scaled, value_text}

whole_numbers : (value_text kind.BigInt (cell.Int (negsuc 9223372036854775807)) ≡ codes "-9223372036854775808") × (value_text kind.Int (cell.Int (pos 0)) ≡ codes "0")
unfolding digits
whole_numbers = (refl, refl)

decimals : (value_text (kind.Decimal 6 2) (cell.Decimal (pos 12305)) ≡ codes "123.05") × (value_text (kind.Decimal 6 2) (cell.Decimal (negsuc 4)) ≡ codes "-0.05")
    × (value_text (kind.Decimal 3 0) (cell.Decimal (pos 7)) ≡ codes "7") × (scaled 18 1 ≡ codes "0.000000000000000001")
unfolding digits
decimals = (refl, refl, refl, refl)

texts : quoted (codes "it's \"\\" ++ 10 ∷ 13 ∷ 0 ∷ 9 ∷ []) ≡ codes "'it\\'s \"\\\\\\n\\r\\0" ++ 9 ∷ codes "'"
texts = refl

byte_strings : (byte_string [] ≡ codes "X''") × (byte_string (171 ∷ 1 ∷ []) ≡ codes "X'ab01'")
unfolding encode_with
byte_strings = (refl, refl)

row : row_text (kind.Int ∷ kind.Bool ∷ kind.Bool ∷ kind.Varchar 1 ∷ []) (cell.Null ∷ cell.Bool true ∷ cell.Bool false ∷ cell.Text (codes "a") ∷ []) ≡ codes "NULL,1,0,'a'"
row = refl
