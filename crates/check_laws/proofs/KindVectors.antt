-- Which values a kind has.
use Rattle.std.proofs.Common.{◌≡◌, refl, true, false, pos, negsuc, ◌-◌, ◌^◌}
use Rattle.sql_values.specs.declared.kinds.Kind.TheVariants as kind
use Rattle.sql_values.specs.Worths.{Scaled, Truth, Unknown, Whole}
use Rattle.check_laws.specs.Kinds.{has_kind}

null : has_kind kind.Bool Unknown ≡ true
null = refl

-- the greatest whole number and one more, the least one and one less
greatest : has_kind kind.Int (Whole (pos (2 ^ 63 - 1))) ≡ true
greatest = refl

too_great : has_kind kind.Int (Whole (pos (2 ^ 63))) ≡ false
too_great = refl

least : has_kind kind.Int (Whole (negsuc (2 ^ 63 - 1))) ≡ true
least = refl

too_small : has_kind kind.Int (Whole (negsuc (2 ^ 63))) ≡ false
too_small = refl

-- 1.50 has two digits behind its point, and TRUE is no number
decimal : has_kind (kind.Decimal 2) (Scaled (pos 150) 2) ≡ true
decimal = refl

another_scale : has_kind (kind.Decimal 1) (Scaled (pos 150) 2) ≡ false
another_scale = refl

truth : has_kind kind.Int (Truth true) ≡ false
truth = refl
