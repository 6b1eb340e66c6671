-- Small facts about numbers.
use Rattle.std.proofs.Common.{◌≡◌, ℕ, ◌≤◌, Bool, true, false, cond, ltb, arith, ◌-◌, suc}
use Rattle.std.proofs.lemmas.Bool.{ltb-true, ltb-false}

pub at_least : (b : Bool) (n g : ℕ) → ltb g n ≡ b → (n ≤ cond b n g) × (g ≤ cond b n g)
at_least true n g e = (omega arith, omega (arith, ltb-true g n e))
at_least false n g e = (ltb-false g n e, omega arith)

pub none_long : (n : ℕ) → 1 ≤ n → n ≡ 0 → ⊥
none_long n long none = omega arith

pub one_less : (n : ℕ) → suc n - 1 ≡ n
one_less n = omega arith
