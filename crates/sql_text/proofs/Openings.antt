-- The parentheses that are left to write, one after the other.
use Rattle.std.proofs.Common.{◌≡◌, ap, ℕ, suc, ◌+◌, ◌-◌, ◌<◌, ◌++◌, codes, arith}
use Rattle.sql_text.specs.Canon.{opened}

pub next_opening : (count turn : ℕ) → turn < count → opened (count - turn) ≡ codes "(" ++ opened (count - (turn + 1))
next_opening count turn within =
    let e : count - turn ≡ suc (count - (turn + 1)) = omega arith in
    ap opened e
