-- How two values compare: numbers by what they are, texts and byte strings byte by byte.
use Rattle.std.specs.Prelude.{Option, None, Some}
use Rattle.std.specs.Ordering.{nat_cmp, int_cmp}
use Rattle.std.specs.declared.cmp.Ordering.{Ordering}
use Rattle.std.specs.Cmp.Lexicographic.{slice_cmp}
use Rattle.sql_values.specs.Worths.{Worth, Letters, Octets}
use Rattle.sql_values.specs.Numbers.{number, moved}
use Rattle.sql_values.specs.declared.numbers.Number.{Number}

-- m / 10^p against n / 10^q is m * 10^q against n * 10^p
abbrev pub number_cmp : Number → Number → Ordering
number_cmp a b = int_cmp (moved b.scale a.units) (moved a.scale b.units)

abbrev pub numbers_cmp : Option Number → Option Number → Option Ordering
numbers_cmp (Some a) (Some b) = Some (number_cmp a b)
numbers_cmp (Some a) None = None
numbers_cmp None b = None

-- None where one side is NULL; two that are never compared have none either
abbrev pub worth_cmp : Worth → Worth → Option Ordering
worth_cmp (Letters a) (Letters b) = Some (slice_cmp nat_cmp a b)
worth_cmp (Octets a) (Octets b) = Some (slice_cmp nat_cmp a b)
worth_cmp a b = numbers_cmp (number a) (number b)
