-- What a column keeps of a value.
use Rattle.std.specs.Prelude.{ℕ, ℤ, pos, negsuc, Bool, true, false, Option, None, Some, Result, Ok, Err, ◌+◌, ◌-◌, ◌/◌, ◌^◌, neg_ℤ, nat_lt, nat_le, zero, suc, unsigned_abs, if◌then◌else◌}
use Rattle.tuple_codec.specs.declared.values.SqlType.{SqlType}
use Rattle.tuple_codec.specs.declared.values.SqlType.TheVariants as type
use Rattle.tuple_codec.specs.declared.values.Value.{Value}
use Rattle.tuple_codec.specs.declared.values.Value.TheVariants as cell
use Rattle.tuple_codec.specs.Rows.{fits, fits_bits}
use Rattle.sql_values.specs.declared.kinds.Kind.{Kind}
use Rattle.sql_values.specs.declared.assigning.Misfit.{Misfit}
use Rattle.sql_values.specs.declared.assigning.Misfit.TheVariants.{OutOfRange, NotNull, TooLong, Mismatch}
use Rattle.sql_values.specs.Worths.{worth_of}
use Rattle.sql_values.specs.Numbers.{number, moved}
use Rattle.sql_values.specs.declared.numbers.Number.{Number}

-- m divided by an even unit, to the nearest, a half upwards
abbrev pub half_up : ℕ → ℕ → ℕ
half_up unit m = (m + unit / 2) / unit

-- n divided by ten to this power, to the nearest, a half away from zero
abbrev pub rounded_off : ℕ → ℤ → ℤ
rounded_off places (pos n) = pos (half_up (10 ^ places) n)
rounded_off places (negsuc n) = neg_ℤ (pos (half_up (10 ^ places) (suc n)))

-- the number in units of this scale
abbrev pub rounded : ℕ → Number → ℤ
rounded scale n = if nat_le n.scale scale then moved (scale - n.scale) n.units else rounded_off (n.scale - scale) n.units

abbrev pub kept_if : Bool → Value → Result Value Misfit
kept_if fitting value = if fitting then Ok value else Err OutOfRange

abbrev pub kept_bool : ℤ → Result Value Misfit
kept_bool (pos zero) = Ok (cell.Bool false)
kept_bool (pos (suc zero)) = Ok (cell.Bool true)
kept_bool n = Err OutOfRange

-- a number, rounded to the column's scale before its range is judged
abbrev pub kept_number : SqlType → Number → Result Value Misfit
kept_number type.BigInt n = let m = rounded 0 n in kept_if (fits_bits 63 m) (cell.Int m)
kept_number type.Int n = let m = rounded 0 n in kept_if (fits_bits 31 m) (cell.Int m)
kept_number type.Bool n = kept_bool (rounded 0 n)
kept_number (type.Decimal digits scale) n = let m = rounded scale n in kept_if (nat_lt (unsigned_abs m) (10 ^ digits)) (cell.Decimal m)
kept_number target n = Err Mismatch

abbrev pub kept_number_or : SqlType → Option Number → Result Value Misfit
kept_number_or target (Some n) = kept_number target n
kept_number_or target None = Err Mismatch

-- a text has at most as many characters as its column allows, a byte string as many bytes
abbrev pub kept_short : SqlType → Value → Result Value Misfit
kept_short target value = if fits target value then Ok value else Err TooLong

-- what a value of this kind leaves in a column of this type
abbrev pub stored : Kind → SqlType → Bool → Value → Result Value Misfit
stored kind target true cell.Null = Err NotNull
stored kind target false cell.Null = Ok cell.Null
stored kind (type.Varchar most) not_null (cell.Text text) = kept_short (type.Varchar most) (cell.Text text)
stored kind (type.Varbinary most) not_null (cell.Bytes bytes) = kept_short (type.Varbinary most) (cell.Bytes bytes)
stored kind target not_null value = kept_number_or target (number (worth_of kind value))

abbrev pub misfit_number : Misfit → ℕ
misfit_number OutOfRange = 1264
misfit_number NotNull = 1048
misfit_number TooLong = 1406
misfit_number Mismatch = 9001
