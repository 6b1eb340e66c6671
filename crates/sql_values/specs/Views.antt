-- What contracts see of a worth that borrows.
use Rattle.sql_values.specs.Worths.{Unknown, Whole, Truth, Letters, Octets, Scaled}
use Rattle.sql_values.specs.Worths as spec
use Rattle.sql_values.specs.declared.worths.Worth.{Worth}
use Rattle.sql_values.specs.declared.worths.Worth.TheVariants as w

abbrev pub seen : Worth → spec.Worth
seen w.Null = Unknown
seen (w.Int n) = Whole n
seen (w.Bool b) = Truth b
seen (w.Text text) = Letters text.now
seen (w.Bytes bytes) = Octets bytes.now
seen (w.Decimal n scale) = Scaled n scale
