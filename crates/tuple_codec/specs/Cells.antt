-- The bytes of a cell in either form.
use Rattle.std.specs.Prelude.{ℕ, ℤ, Bool, true, nat_lt, length, List}
use Rattle.std.specs.List.{flat_map}
use Rattle.std.specs.Int.{w64, cast_unsigned}
use Rattle.tuple_codec.specs.Rows.{Cells}
use Rattle.tuple_codec.specs.KeyBytes.{turned, escaped, key_cell}
use Rattle.tuple_codec.specs.RowBytes.{length_prefixed, row_cell}
use Rattle.tuple_codec.specs.declared.values.Value.{Value}
use Rattle.tuple_codec.specs.declared.values.Value.TheVariants as cell
use Rattle.tuple_codec.specs.declared.forms.Form.{Form}
use Rattle.tuple_codec.specs.declared.forms.Form.TheVariants as form

abbrev pub bits_of : Form → ℤ → ℕ
bits_of form.Key n = turned n
bits_of form.Row n = cast_unsigned w64 n

abbrev pub text_bytes : Form → List ℕ → List ℕ
text_bytes form.Key text = escaped text
text_bytes form.Row text = length_prefixed text

abbrev pub cell_bytes : Form → Value → List ℕ
cell_bytes form.Key value = key_cell value
cell_bytes form.Row value = row_cell value

abbrev pub spelling : Form → Cells → List ℕ
spelling form row = flat_map (cell_bytes form) row

-- a length that two bytes can say, where they have to
abbrev pub is_short : Form → List ℕ → Bool
is_short form.Key text = true
is_short form.Row text = nat_lt (length text) 65536

abbrev pub is_spelled : Form → Value → Bool
is_spelled form (cell.Text text) = is_short form text
is_spelled form (cell.Bytes bytes) = is_short form bytes
is_spelled form value = true
