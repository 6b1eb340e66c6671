-- What SUM gives of the cells of a column.
use Rattle.std.specs.Prelude.{ℤ, List, Option, None, Some, ◌+ℤ◌, ◌^◌, fold, nat_lt, unsigned_abs, if◌then◌else◌}
use Rattle.tuple_codec.specs.declared.values.Value.{Value}
use Rattle.tuple_codec.specs.declared.values.Value.TheVariants as cell
use Rattle.tuple_codec.specs.Rows.{fits_bits}
use Rattle.sql_values.specs.declared.kinds.Kind.{Kind}
use Rattle.sql_values.specs.declared.kinds.Kind.TheVariants as kind

-- what a cell adds; NULL is left out
abbrev pub units : Value → Option ℤ
units (cell.Int n) = Some n
units (cell.Decimal n) = Some n
units value = None

-- None: nothing is there yet
abbrev pub added_to : Option ℤ → Option ℤ → Option ℤ
added_to total None = total
added_to None (Some n) = Some n
added_to (Some total) (Some n) = Some (total +ℤ n)

abbrev pub added : Option ℤ → Value → Option ℤ
added total value = added_to total (units value)

-- None: out of range
abbrev pub total_in : Kind → ℤ → Option Value
total_in kind.Int n = if fits_bits 63 n then Some (cell.Int n) else None
total_in kind n = if nat_lt (unsigned_abs n) (10 ^ 18) then Some (cell.Decimal n) else None

-- the total of nothing is NULL
abbrev pub judged : Kind → Option ℤ → Option Value
judged kind (Some n) = total_in kind n
judged kind None = Some cell.Null

-- it is judged once, when all is added
abbrev pub total : Kind → List Value → Option Value
total kind values = judged kind (fold added None values)
