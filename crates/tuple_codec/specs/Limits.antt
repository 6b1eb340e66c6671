-- Which types a column may have.
use Rattle.std.specs.Prelude.{Bool, true, ◌&&◌, List, nat_le}
use Rattle.std.specs.List.{list_all}
use Rattle.tuple_codec.specs.declared.values.SqlType.{SqlType}
use Rattle.tuple_codec.specs.declared.values.SqlType.TheVariants as kind

-- texts and byte strings of 1 to 2,000, decimals of 1 to 18 digits, of which up to all stand behind the point
abbrev pub is_type : SqlType → Bool
is_type kind.BigInt = true
is_type kind.Int = true
is_type kind.Bool = true
is_type (kind.Varchar most) = nat_le 1 most && nat_le most 2000
is_type (kind.Varbinary most) = nat_le 1 most && nat_le most 2000
is_type (kind.Decimal digits scale) = nat_le 1 digits && nat_le digits 18 && nat_le scale digits

abbrev pub are_types : List SqlType → Bool
are_types types = list_all is_type types
