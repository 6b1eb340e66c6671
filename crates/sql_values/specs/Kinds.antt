-- The kinds of expressions, known before any row is seen.
use Rattle.std.specs.Prelude.{ℕ, Bool, true, false, Option, None, Some, ◌+◌, max, ◌&&◌, nat_le, if◌then◌else◌}
use Rattle.tuple_codec.specs.declared.values.SqlType.{SqlType}
use Rattle.tuple_codec.specs.declared.values.SqlType.TheVariants as type
use Rattle.sql_values.specs.declared.kinds.Kind.{Kind}
use Rattle.sql_values.specs.declared.kinds.Kind.TheVariants as kind
use Rattle.sql_values.specs.Worths.{scale_of}

-- no decimal has a scale above 18
abbrev pub decimal : ℕ → Option Kind
decimal scale = if nat_le scale 18 then Some (kind.Decimal scale) else None

-- the kind of a column of this type
abbrev pub kind_of : SqlType → Option Kind
kind_of type.BigInt = Some kind.Int
kind_of type.Int = Some kind.Int
kind_of type.Bool = Some kind.Bool
kind_of (type.Varchar most) = Some kind.Text
kind_of (type.Varbinary most) = Some kind.Bytes
kind_of (type.Decimal digits scale) = decimal scale

-- the type of an answer's column that is no table's
abbrev pub column_type : Kind → SqlType
column_type kind.Int = type.BigInt
column_type kind.Bool = type.Bool
column_type kind.Text = type.Varchar 65535
column_type kind.Bytes = type.Varbinary 65535
column_type (kind.Decimal scale) = type.Decimal 18 scale
column_type kind.Null = type.BigInt

abbrev pub is_number : Kind → Bool
is_number kind.Int = true
is_number kind.Bool = true
is_number (kind.Decimal scale) = true
is_number kind = false

abbrev pub is_bool : Kind → Bool
is_bool kind.Bool = true
is_bool kind = false

-- two numbers, two texts, two byte strings, or NULL and anything
abbrev pub are_comparable : Kind → Kind → Bool
are_comparable kind.Null b = true
are_comparable a kind.Null = true
are_comparable kind.Text kind.Text = true
are_comparable kind.Text b = false
are_comparable kind.Bytes kind.Bytes = true
are_comparable kind.Bytes b = false
are_comparable a b = is_number b

abbrev pub is_int : Kind → Bool
is_int kind.Int = true
is_int kind = false

-- arithmetic takes whole numbers and decimals
abbrev pub is_counted : Kind → Bool
is_counted kind.Int = true
is_counted (kind.Decimal scale) = true
is_counted kind = false

-- two whole numbers give a whole number; a decimal's scale comes from both scales, a whole number's being 0
abbrev pub joined_kind : (ℕ → ℕ → ℕ) → Kind → Kind → Option Kind
joined_kind f a b = if is_int a && is_int b then Some kind.Int else (if is_counted a && is_counted b then decimal (f (scale_of a) (scale_of b)) else None)

-- a sum has the greater scale
abbrev pub sum_kind : Kind → Kind → Option Kind
sum_kind = joined_kind max

-- a product has the sum of the scales
abbrev pub product_kind : Kind → Kind → Option Kind
product_kind = joined_kind ◌+◌

abbrev pub negative_kind : Kind → Option Kind
negative_kind kind = if is_counted kind then Some kind else None

-- numbers go to number columns, texts to texts, byte strings to byte strings, NULL to each
abbrev pub may_assign : Kind → SqlType → Bool
may_assign kind.Null target = true
may_assign kind.Text (type.Varchar most) = true
may_assign kind.Text target = false
may_assign kind.Bytes (type.Varbinary most) = true
may_assign kind.Bytes target = false
may_assign kind (type.Varchar most) = false
may_assign kind (type.Varbinary most) = false
may_assign kind target = true
