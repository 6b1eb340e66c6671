-- Edits past the end of a list.
use Rattle.std.proofs.Common.{◌≡◌, ℕ, zero, suc, ◌≤◌, List, [], ◌∷◌, length, refl, ap, arith}
use Rattle.std.specs.List.{remove}

pub remove_past : {A : Type 0} (xs : List A) (i : ℕ) → length xs ≤ i → remove xs i ≡ xs
remove_past [] zero h = refl
remove_past [] (suc i) h = refl
remove_past (x ∷ xs) zero h = absurd (omega (arith, h))
remove_past (x ∷ xs) (suc i) h = ap (λ rest. x ∷ rest) (remove_past xs i (omega (arith, h)))
