-- Moves one after another are one move.
use Rattle.std.proofs.Common.{ℕ, ◌≡◌, ◌+◌, ◌++◌, List, take, drop, Option, None, Some, sym, ◌∙◌, ap, subst, append_assoc, arith}
use Rattle.std.proofs.lemmas.List.{take-append-drop, drop-take}
use Rattle.std.proofs.lemmas.Grind.{common_steps}
use Rattle.std.specs.Io.KnownBytes.{Appends}

-- the front, and then the front of the rest
pub take_further : (n m : ℕ) (xs : List ℕ) → take n xs ++ take m (drop n xs) ≡ take (n + m) xs
take_further n m xs =
    let front : take n (take (n + m) xs) ≡ take n xs = grind (arith, common_steps) in
    ap (λ ys. ys ++ take m (drop n xs)) (sym front) ∙ ap (λ ys. take n (take (n + m) xs) ++ ys) (sym (drop-take n m xs)) ∙ take-append-drop n (take (n + m) xs)

pub appends_front : (a b c : Option (List ℕ)) (n m : ℕ) (xs : List ℕ) → Appends a b (take n xs) → Appends b c (take m (drop n xs)) → Appends a c (take (n + m) xs)
appends_front None b c n m xs p q = tt
appends_front (Some old) None c n m xs p q = absurd p
appends_front (Some old) (Some mid) None n m xs p q = absurd q
appends_front (Some old) (Some mid) (Some new) n m xs p q = q ∙ ap (λ ys. ys ++ take m (drop n xs)) p ∙ append_assoc old (take n xs) (take m (drop n xs)) ∙ ap (λ ys. old ++ ys) (take_further n m xs)

-- a front that was appended grows by a front of the rest
pub appends_further : (a b c : Option (List ℕ)) (n m : ℕ) (xs rest : List ℕ) → Appends a b (take n xs) → Appends b c (take m rest) → rest ≡ drop n xs → Appends a c (take (n + m) xs)
appends_further a b c n m xs rest p q e = appends_front a b c n m xs p (subst (λ ys. Appends b c (take m ys)) e q)
