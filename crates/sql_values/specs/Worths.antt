-- What an expression is worth on a row, and how a cell and its kind give it.
use Rattle.std.specs.Prelude.{ℕ, ℤ, Bool, true, false, List, None, Some}
use Rattle.tuple_codec.specs.declared.values.Value.{Value}
use Rattle.tuple_codec.specs.declared.values.Value.TheVariants as cell
use Rattle.sql_values.specs.declared.kinds.Kind.{Kind}
use Rattle.sql_values.specs.declared.kinds.Kind.TheVariants as kind
use Rattle.sql_values.specs.Logic.{Truth3}

pub data Worth : Type 0 where
  -- NULL
  Unknown : Worth
  -- a whole number
  Whole : ℤ → Worth
  Truth : Bool → Worth
  -- a text
  Letters : List ℕ → Worth
  -- a byte string
  Octets : List ℕ → Worth
  -- a decimal: the number times ten to its scale, and the scale
  Scaled : ℤ → ℕ → Worth

abbrev pub scale_of : Kind → ℕ
scale_of (kind.Decimal scale) = scale
scale_of kind = 0

-- a cell of this kind
abbrev pub worth_of : Kind → Value → Worth
worth_of kind cell.Null = Unknown
worth_of kind (cell.Int n) = Whole n
worth_of kind (cell.Bool b) = Truth b
worth_of kind (cell.Text text) = Letters text
worth_of kind (cell.Bytes bytes) = Octets bytes
worth_of kind (cell.Decimal n) = Scaled n (scale_of kind)

-- and back
abbrev pub cell_of : Worth → Value
cell_of Unknown = cell.Null
cell_of (Whole n) = cell.Int n
cell_of (Truth b) = cell.Bool b
cell_of (Letters text) = cell.Text text
cell_of (Octets bytes) = cell.Bytes bytes
cell_of (Scaled n scale) = cell.Decimal n

abbrev pub truth : Worth → Truth3
truth (Truth b) = Some b
truth worth = None

abbrev pub of_truth : Truth3 → Worth
of_truth (Some b) = Truth b
of_truth None = Unknown

abbrev pub is_unknown : Worth → Bool
is_unknown Unknown = true
is_unknown worth = false
