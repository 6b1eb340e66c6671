-- Counted loops side by side, what outlives each step, and lists of which something holds.
use Rattle.std.proofs.Common.{◌≡◌, ◌≢◌, ℕ, zero, suc, List, [], ◌∷◌, ◌++◌, refl, ap, ◌∙◌, map, length, arith}
use Rattle.std.specs.List.{AllByRecursion, flat_map}
use Rattle.workload.specs.Workload.{each}

-- ---- counted loops

-- a loop that goes as another does, on what the other's values come to
pub each_follows : {A B : Type 0} (to : B → A) (count : ℕ) (step : ℕ → A → A) (other : ℕ → B → B) (first : B) → ((n : ℕ) (b : B) → step n (to b) ≡ to (other n b)) → each count step (to first) ≡ to (each count other first)
unfolding each
each_follows to zero step other first follows = refl
each_follows to (suc count) step other first follows =
    ap (step count) (each_follows to count step other first follows) ∙ follows count (each count other first)

-- what holds at first and goes on from step to step holds at the end
pub each_holds : {A : Type 0} (P : ℕ → A → Type 0) (count : ℕ) (step : ℕ → A → A) (first : A) → P 0 first → ((n : ℕ) (a : A) → P n a → P (suc n) (step n a)) → P count (each count step first)
unfolding each
each_holds P zero step first holds on = holds
each_holds P (suc count) step first holds on = on count (each count step first) (each_holds P count step first holds on)

-- ---- lists of which something holds

pub all_of_both : {A : Type 0} (P : A → Type 0) (xs ys : List A) → AllByRecursion P xs → AllByRecursion P ys → AllByRecursion P (xs ++ ys)
all_of_both P [] ys all more = more
all_of_both P (x ∷ xs) ys all more = (all.0, all_of_both P xs ys all.1 more)

pub all_so : {A : Type 0} (P Q : A → Type 0) (xs : List A) → ((x : A) → P x → Q x) → AllByRecursion P xs → AllByRecursion Q xs
all_so P Q [] so all = tt
all_so P Q (x ∷ xs) so all = (so x all.0, all_so P Q xs so all.1)

pub all_parts : {A : Type 0} (P : A → Type 0) (xs ys : List A) → AllByRecursion P (xs ++ ys) → AllByRecursion P xs × AllByRecursion P ys
all_parts P [] ys all = (tt, all)
all_parts P (x ∷ xs) ys all = let parts = all_parts P xs ys all.1 in ((all.0, parts.0), parts.1)

pub all_mapped : {A B : Type 0} (P : B → Type 0) (f : A → B) (xs : List A) → AllByRecursion (λ x. P (f x)) xs → AllByRecursion P (map f xs)
all_mapped P f [] all = tt
all_mapped P f (x ∷ xs) all = (all.0, all_mapped P f xs all.1)

pub all_gathered : {A B : Type 0} (P : B → Type 0) (f : A → List B) (xs : List A) → ((x : A) → AllByRecursion P (f x)) → AllByRecursion P (flat_map f xs)
all_gathered P f [] each_so = tt
all_gathered P f (x ∷ xs) each_so = all_of_both P (f x) (flat_map f xs) (each_so x) (all_gathered P f xs each_so)

-- two functions that come to the same where something holds
pub map_where : {A B : Type 0} (P : A → Type 0) (f g : A → B) (xs : List A) → ((x : A) → P x → f x ≡ g x) → AllByRecursion P xs → map f xs ≡ map g xs
map_where P f g [] same all = refl
map_where P f g (x ∷ xs) same all = ap (λ y. y ∷ map f xs) (same x all.0) ∙ ap (λ ys. g x ∷ ys) (map_where P f g xs same all.1)

pub has_some : {A : Type 0} (count : ℕ) (xs : List A) → length xs ≡ suc count → xs ≢ []
has_some {A = A} count xs many none = apart (length xs) many (ap (λ (ys : List A). length ys) none) where
  apart : (n : ℕ) → n ≡ suc count → n ≡ 0 → ⊥
  apart n one other = omega arith
