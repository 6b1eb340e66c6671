-- Rows as bytes, for the cells that aren't in the key.
use Rattle.std.specs.Prelude.{ℕ, ◌/◌, ◌%◌, List, [], ◌∷◌, length}
use Rattle.std.specs.List.{flat_map}
use Rattle.std.specs.Int.{w64, to_be_bytes, cast_unsigned}
use Rattle.tuple_codec.specs.Rows.{Cells}
use Rattle.tuple_codec.specs.KeyBytes.{bit}
use Rattle.tuple_codec.specs.declared.values.Value.{Value}
use Rattle.tuple_codec.specs.declared.values.Value.TheVariants as cell

-- a text's length in two bytes, and its bytes; one of 65,536 bytes or more has no such spelling, since the first number is then no byte
abbrev pub length_prefixed : List ℕ → List ℕ
length_prefixed text = length text / 256 ∷ length text % 256 ∷ text

-- NULL is a zero byte; a value is a one and its payload, numbers in two's complement
abbrev pub row_cell : Value → List ℕ
row_cell cell.Null = 0 ∷ []
row_cell (cell.Int n) = 1 ∷ to_be_bytes w64 (cast_unsigned w64 n)
row_cell (cell.Bool b) = 1 ∷ bit b ∷ []
row_cell (cell.Text text) = 1 ∷ length_prefixed text
row_cell (cell.Bytes bytes) = 1 ∷ length_prefixed bytes
row_cell (cell.Decimal n) = 1 ∷ to_be_bytes w64 (cast_unsigned w64 n)

-- the cells in order
abbrev pub row_bytes : Cells → List ℕ
row_bytes = flat_map row_cell
