-- Exact numbers, and what sums and products of them are.
use Rattle.std.specs.Prelude.{ℕ, ℤ, pos, true, false, Option, None, Some, ◌+◌, ◌-◌, ◌^◌, max, ◌+ℤ◌, ◌-ℤ◌, ◌*ℤ◌, neg_ℤ, ◌&&◌, nat_lt, nat_le, unsigned_abs, if◌then◌else◌}
use Rattle.tuple_codec.specs.Rows.{fits_bits}
use Rattle.sql_values.specs.declared.numbers.Number.{Number}
use Rattle.sql_values.specs.Worths.{Worth, Unknown, Whole, Truth, Scaled}

-- the number times ten to this power
abbrev pub moved : ℕ → ℤ → ℤ
moved places n = n *ℤ pos (10 ^ places)

abbrev pub number : Worth → Option Number
number (Whole n) = Some (record { units = n; scale = 0 })
number (Truth true) = Some (record { units = pos 1; scale = 0 })
number (Truth false) = Some (record { units = pos 0; scale = 0 })
number (Scaled n scale) = Some (record { units = n; scale = scale })
number worth = None

-- a whole result has 64 bits; None is out of range
abbrev pub whole : ℤ → Option Worth
whole n = if fits_bits 63 n then Some (Whole n) else None

-- a decimal result has at most 18 digits
abbrev pub scaled : Number → Option Worth
scaled n = if nat_lt (unsigned_abs n.units) (10 ^ 18) && nat_le n.scale 18 then Some (Scaled n.units n.scale) else None

-- in units of a scale that isn't less
abbrev pub at_scale : ℕ → Number → ℤ
at_scale scale n = moved (scale - n.scale) n.units

-- a sum has the greater scale
abbrev pub greater_scale : Number → Number → ℕ
greater_scale a b = max a.scale b.scale

abbrev pub sum_at : ℕ → Number → Number → Number
sum_at scale a b = record { units = at_scale scale a +ℤ at_scale scale b; scale = scale }

abbrev pub difference_at : ℕ → Number → Number → Number
difference_at scale a b = record { units = at_scale scale a -ℤ at_scale scale b; scale = scale }

abbrev pub sum_of : Number → Number → Number
sum_of a b = sum_at (greater_scale a b) a b

abbrev pub difference_of : Number → Number → Number
difference_of a b = difference_at (greater_scale a b) a b

-- a product has the sum of the scales
abbrev pub product_of : Number → Number → Number
product_of a b = record { units = a.units *ℤ b.units; scale = a.scale + b.scale }

-- NULL where one side is NULL
abbrev pub on_numbers : (Number → Number → Number) → Option Number → Option Number → Option Worth
on_numbers f (Some a) (Some b) = scaled (f a b)
on_numbers f (Some a) None = Some Unknown
on_numbers f None b = Some Unknown

-- two whole numbers give a whole number, any other two a decimal
abbrev pub plus : Worth → Worth → Option Worth
plus (Whole m) (Whole n) = whole (m +ℤ n)
plus a b = on_numbers sum_of (number a) (number b)

abbrev pub minus : Worth → Worth → Option Worth
minus (Whole m) (Whole n) = whole (m -ℤ n)
minus a b = on_numbers difference_of (number a) (number b)

abbrev pub times : Worth → Worth → Option Worth
times (Whole m) (Whole n) = whole (m *ℤ n)
times a b = on_numbers product_of (number a) (number b)

abbrev pub negated : Worth → Option Worth
negated (Whole n) = whole (neg_ℤ n)
negated (Scaled n scale) = scaled (record { units = neg_ℤ n; scale = scale })
negated worth = Some Unknown
