-- Powers of ten.
use Rattle.std.proofs.Common.{ℕ, ◌<◌, ◌^◌, zero, suc, arith}

pub ten_positive : (scale : ℕ) → 0 < 10 ^ scale
ten_positive zero = omega arith
ten_positive (suc scale) = grind (arith, ten_positive scale)
