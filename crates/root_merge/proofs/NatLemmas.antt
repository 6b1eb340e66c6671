-- Numbers that are 0, or not.
use Rattle.std.proofs.Common.{◌≡◌, ◌+◌, ap, ℕ, true, false, not, ◌==◌, arith}
use Rattle.std.proofs.lemmas.Bool.Decides.{nat_tests}
use Rattle.tuple_codec.proofs.Truths.{not_true as bool_false, not_false as bool_true}

pub nat_false : (n : ℕ) → (n ≡ 0 → ⊥) → (n == 0) ≡ false
nat_false n apart = grind (arith, nat_tests)

pub zero_is : (n : ℕ) → (n == 0) ≡ true → n ≡ 0
zero_is n e = grind (arith, nat_tests)

pub sum_false : (a b : ℕ) → (a == 0) ≡ false → ((a + b) == 0) ≡ false
sum_false a b e = grind (arith, nat_tests)

pub some_sum : (a b : ℕ) → not (a == 0) ≡ true → not ((a + b) == 0) ≡ true
some_sum a b some = ap not (sum_false a b (bool_false (a == 0) some))

pub none_sum : (a b : ℕ) → not (a == 0) ≡ false → not ((a + b) == 0) ≡ not (b == 0)
none_sum a b none =
    let nothing : a ≡ 0 = zero_is a (bool_true (a == 0) none) in
    let same : a + b ≡ b = omega (arith, nothing) in
    ap (λ (n : ℕ). not (n == 0)) same
