-- Keys as bytes, which are ordered as the keys are.
use Rattle.std.specs.Prelude.{ℕ, ◌+◌, ◌-◌, ◌^◌, ◌==◌, suc, ℤ, pos, negsuc, Bool, true, false, if◌then◌else◌, List, [], ◌∷◌, ◌++◌}
use Rattle.std.specs.List.{flat_map}
use Rattle.std.specs.Int.{w64, to_be_bytes}
use Rattle.tuple_codec.specs.Rows.{Cells}
use Rattle.tuple_codec.specs.declared.values.Value.{Value}
use Rattle.tuple_codec.specs.declared.values.Value.TheVariants as cell

-- a number of 64 bits with its sign bit turned, which is how far it lies above the least
abbrev pub turned : ℤ → ℕ
turned (pos n) = 2 ^ 63 + n
turned (negsuc n) = 2 ^ 63 - suc n

-- a truth value as a byte
abbrev pub bit : Bool → ℕ
bit false = 0
bit true = 1

-- a zero byte is followed by 255, so that two zero bytes can end a text
abbrev pub escape : ℕ → List ℕ
escape byte = if byte == 0 then 0 ∷ 255 ∷ [] else byte ∷ []

abbrev pub escaped : List ℕ → List ℕ
escaped text = flat_map escape text ++ 0 ∷ 0 ∷ []

-- NULL is a zero byte; a value is a one and its payload
abbrev pub key_cell : Value → List ℕ
key_cell cell.Null = 0 ∷ []
key_cell (cell.Int n) = 1 ∷ to_be_bytes w64 (turned n)
key_cell (cell.Bool b) = 1 ∷ bit b ∷ []
key_cell (cell.Text text) = 1 ∷ escaped text
key_cell (cell.Bytes bytes) = 1 ∷ escaped bytes
key_cell (cell.Decimal n) = 1 ∷ to_be_bytes w64 (turned n)

-- the cells in order
abbrev pub key_bytes : Cells → List ℕ
key_bytes = flat_map key_cell
