-- Tests over lists that are filtered, cut, joined, or lose or change one item.
use Rattle.std.proofs.Common.{◌≡◌, ◌≤◌, refl, sym, ap, ◌∙◌, ℕ, zero, suc, ◌+◌, Bool, true, false, cond, not, ◌||◌, true≢false, List, [], ◌∷◌, ◌++◌, filter, length, set, take, arith}
use Rattle.std.specs.List.{AllByRecursion, count_by, list_all, list_any, remove}
use Rattle.std.proofs.lemmas.Bool.{and_parts, not-true, not_from_false, or_parts}
use Rattle.std.proofs.lemmas.List.Sums.{sum_by-cons}
use Rattle.schema_model.specs.Schemas.{are_distinct}
use Rattle.plain_writes.proofs.RowOrderLemmas.{both_so, neither_so, two}

-- ---- of two tests a third

pub all_combined : {A : Type 0} (p q r : A → Bool) (xs : List A) → ((x : A) → p x ≡ true → q x ≡ true → r x ≡ true) → list_all p xs ≡ true → list_all q xs ≡ true → list_all r xs ≡ true
all_combined p q r [] join h g = refl
all_combined p q r (x ∷ xs) join h g =
    let first = and_parts (p x) (list_all p xs) h in
    let second = and_parts (q x) (list_all q xs) g in
    both_so (join x first.0 second.0) (all_combined p q r xs join first.1 second.1)

pub have_append : {A : Type 0} (P : A → Type 0) (xs ys : List A) → AllByRecursion P xs → AllByRecursion P ys → AllByRecursion P (xs ++ ys)
have_append P [] ys h g = g
have_append P (x ∷ xs) ys h g = (h.0, have_append P xs ys h.1 g)

-- ---- filtered

module _ {A : Type 0} (keep : A → Bool) where
  pub filter_all : (p : A → Bool) (xs : List A) → list_all p xs ≡ true → list_all p (filter keep xs) ≡ true
  filter_all p [] h = refl
  filter_all p (x ∷ xs) h =
      let parts = and_parts (p x) (list_all p xs) h in
      let rest = filter_all p xs parts.1 in
      elim (keep x) as (λ b. list_all p (cond b (x ∷ filter keep xs) (filter keep xs)) ≡ true) [
        | true ↦ both_so parts.0 rest
        | false ↦ rest
      ]

  pub filter_keep : (xs : List A) → list_all keep (filter keep xs) ≡ true
  filter_keep [] = refl
  filter_keep (x ∷ xs) = two (keep x)
      (λ t. ap (λ b. list_all keep (cond b (x ∷ filter keep xs) (filter keep xs))) t ∙ both_so t (filter_keep xs))
      (λ t. ap (λ b. list_all keep (cond b (x ∷ filter keep xs) (filter keep xs))) t ∙ filter_keep xs)

  filter_none : (p : A → Bool) (xs : List A) → list_any p xs ≡ false → list_any p (filter keep xs) ≡ false
  filter_none p [] h = refl
  filter_none p (x ∷ xs) h =
      let parts = or_parts (p x) (list_any p xs) h in
      let rest = filter_none p xs parts.1 in
      elim (keep x) as (λ b. list_any p (cond b (x ∷ filter keep xs) (filter keep xs)) ≡ false) [
        | true ↦ neither_so parts.0 rest
        | false ↦ rest
      ]

  pub filter_apart : (same : A → A → Bool) (xs : List A) → are_distinct same xs ≡ true → are_distinct same (filter keep xs) ≡ true
  filter_apart same [] h = refl
  filter_apart same (x ∷ xs) h =
      let parts = and_parts (not (list_any (same x) xs)) (are_distinct same xs) h in
      let rest = filter_apart same xs parts.1 in
      let none = not_from_false _ (filter_none (same x) xs (not-true _ parts.0)) in
      elim (keep x) as (λ b. are_distinct same (cond b (x ∷ filter keep xs) (filter keep xs)) ≡ true) [
        | true ↦ both_so none rest
        | false ↦ rest
      ]

  pub filter_have : (P : A → Type 0) (xs : List A) → AllByRecursion P xs → AllByRecursion P (filter keep xs)
  filter_have P [] h = tt
  filter_have P (x ∷ xs) h = elim (keep x) as (λ b. AllByRecursion P (cond b (x ∷ filter keep xs) (filter keep xs))) [
    | true ↦ (h.0, filter_have P xs h.1)
    | false ↦ filter_have P xs h.1
  ]

  pub filter_few : (xs : List A) → length (filter keep xs) ≤ length xs
  filter_few [] = omega arith
  filter_few (x ∷ xs) = let rest = filter_few xs in elim (keep x) as (λ b. length (cond b (x ∷ filter keep xs) (filter keep xs)) ≤ suc (length xs)) [
    | true ↦ omega arith
    | false ↦ omega arith
  ]

-- ---- the first so many

pub first_all : {A : Type 0} (p : A → Bool) (n : ℕ) (xs : List A) → list_all p xs ≡ true → list_all p (take n xs) ≡ true
first_all p zero xs h = refl
first_all p (suc n) [] h = refl
first_all p (suc n) (x ∷ xs) h = let parts = and_parts (p x) (list_all p xs) h in both_so parts.0 (first_all p n xs parts.1)

first_none : {A : Type 0} (p : A → Bool) (n : ℕ) (xs : List A) → list_any p xs ≡ false → list_any p (take n xs) ≡ false
first_none p zero xs h = refl
first_none p (suc n) [] h = refl
first_none p (suc n) (x ∷ xs) h = let parts = or_parts (p x) (list_any p xs) h in neither_so parts.0 (first_none p n xs parts.1)

pub first_apart : {A : Type 0} (same : A → A → Bool) (n : ℕ) (xs : List A) → are_distinct same xs ≡ true → are_distinct same (take n xs) ≡ true
first_apart same zero xs h = refl
first_apart same (suc n) [] h = refl
first_apart same (suc n) (x ∷ xs) h =
    let parts = and_parts (not (list_any (same x) xs)) (are_distinct same xs) h in
    both_so (not_from_false _ (first_none (same x) n xs (not-true _ parts.0))) (first_apart same n xs parts.1)

-- ---- one item less, or another in its place

pub removed_all : {A : Type 0} (p : A → Bool) (xs : List A) (gone : ℕ) → list_all p xs ≡ true → list_all p (remove xs gone) ≡ true
removed_all p [] zero h = refl
removed_all p [] (suc gone) h = refl
removed_all p (x ∷ xs) zero h = (and_parts (p x) (list_all p xs) h).1
removed_all p (x ∷ xs) (suc gone) h = let parts = and_parts (p x) (list_all p xs) h in both_so parts.0 (removed_all p xs gone parts.1)

removed_none : {A : Type 0} (p : A → Bool) (xs : List A) (gone : ℕ) → list_any p xs ≡ false → list_any p (remove xs gone) ≡ false
removed_none p [] zero h = refl
removed_none p [] (suc gone) h = refl
removed_none p (x ∷ xs) zero h = (or_parts (p x) (list_any p xs) h).1
removed_none p (x ∷ xs) (suc gone) h = let parts = or_parts (p x) (list_any p xs) h in neither_so parts.0 (removed_none p xs gone parts.1)

pub removed_apart : {A : Type 0} (same : A → A → Bool) (xs : List A) (gone : ℕ) → are_distinct same xs ≡ true → are_distinct same (remove xs gone) ≡ true
removed_apart same [] zero h = refl
removed_apart same [] (suc gone) h = refl
removed_apart same (x ∷ xs) zero h = (and_parts (not (list_any (same x) xs)) (are_distinct same xs) h).1
removed_apart same (x ∷ xs) (suc gone) h =
    let parts = and_parts (not (list_any (same x) xs)) (are_distinct same xs) h in
    both_so (not_from_false _ (removed_none (same x) xs gone (not-true _ parts.0))) (removed_apart same xs gone parts.1)

pub set_all : {A : Type 0} (p : A → Bool) (xs : List A) (place : ℕ) (x : A) → p x ≡ true → list_all p xs ≡ true → list_all p (set xs place x) ≡ true
set_all p [] place x at h = refl
set_all p (y ∷ xs) zero x at h = both_so at (and_parts (p y) (list_all p xs) h).1
set_all p (y ∷ xs) (suc place) x at h = let parts = and_parts (p y) (list_all p xs) h in both_so parts.0 (set_all p xs place x at parts.1)

-- ---- counts

abbrev bit : Bool → ℕ
bit b = cond b 1 0

pub no_count : {A : Type 0} (p : A → Bool) (xs : List A) → list_any p xs ≡ false → count_by p xs ≡ 0
no_count p [] h = refl
no_count p (x ∷ xs) h =
    let parts = or_parts (p x) (list_any p xs) h in
    sum_by-cons (λ x. bit (p x)) x xs ∙ (λ i. bit (parts.0 i) + no_count p xs parts.1 i)

pub some_count : {A : Type 0} (p : A → Bool) (xs : List A) → list_any p xs ≡ true → 1 ≤ count_by p xs
some_count p [] h = absurd (true≢false (sym h))
some_count p (x ∷ xs) h =
    let sum : count_by p (x ∷ xs) ≡ bit (p x) + count_by p xs = sum_by-cons (λ x. bit (p x)) x xs in
    two (p x)
    (λ t. let one : bit (p x) ≡ bit true = ap bit t in omega (arith, sum, one))
    (λ t. let rest = some_count p xs (sym (ap (λ b. b || list_any p xs) t) ∙ h) in omega (arith, sum, rest))
