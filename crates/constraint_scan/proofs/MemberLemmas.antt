-- What stands in a list, and tests that some item passes.
use Rattle.std.proofs.Common.{◌≡◌, refl, sym, ap, ◌∙◌, subst, ◌⊎◌, inl, inr, ℕ, ◌+◌, Bool, true, false, cond, ◌&&◌, ◌||◌, List, [], ◌∷◌, ◌++◌, filter, fold, map}
use Rattle.std.specs.List.{AllByRecursion, enumerate_from, flat_map, list_all, list_any}
use Rattle.std.specs.declared.cmp.Ordering.{Ordering}
use Rattle.std.proofs.lemmas.Bool.{or_cases, or_left}
use Rattle.tuple_codec.proofs.Truths.{or_late as or_right, alike_truths as as_one}
use Rattle.plain_sql.specs.Lists.{in_order, placed}
use Rattle.plain_writes.proofs.RowOrderLemmas.{both_so, clash, left_so, placed_any, right_so, two}

abbrev pub Stands : {A : Type 0} → A → List A → Type 0
Stands x [] = ⊥
Stands x (y ∷ ys) = (x ≡ y) ⊎ Stands x ys

-- ---- tests

module _ {A : Type 0} (p : A → Bool) where
  -- some item that passes
  pub some_at : (xs : List A) → list_any p xs ≡ true → (x : A) × Stands x xs × (p x ≡ true)
  some_at [] e = clash e refl
  some_at (x ∷ xs) e = elim (or_cases (p x) (list_any p xs) e) [
    | inl h ↦ (x, inl refl, h)
    | inr h ↦ let more = some_at xs h in (more.0, inr more.1, more.2)
  ]

  pub at_some : (xs : List A) (x : A) → Stands x xs → p x ≡ true → list_any p xs ≡ true
  at_some [] x s e = absurd s
  at_some (y ∷ ys) x (inl same) e = or_left (p y) (list_any p ys) (ap p (sym same) ∙ e)
  at_some (y ∷ ys) x (inr s) e = or_right (p y) (at_some ys x s e)

  pub filter_at : (xs : List A) (x : A) → Stands x (filter p xs) → Stands x xs × (p x ≡ true)
  filter_at [] x s = absurd s
  filter_at (y ∷ ys) x s = two (p y)
      (λ e. elim (subst (Stands x) (ap (λ b. cond b (y ∷ filter p ys) (filter p ys)) e) s) [
        | inl same ↦ (inl same, ap p same ∙ e)
        | inr more ↦ let rest = filter_at ys x more in (inr rest.0, rest.1)
      ])
      (λ e. let rest = filter_at ys x (subst (Stands x) (ap (λ b. cond b (y ∷ filter p ys) (filter p ys)) e) s) in (inr rest.0, rest.1))

  pub at_filter : (xs : List A) (x : A) → Stands x xs → p x ≡ true → Stands x (filter p xs)
  at_filter [] x s e = absurd s
  at_filter (y ∷ ys) x (inl same) e = subst (Stands x) (sym (ap (λ b. cond b (y ∷ filter p ys) (filter p ys)) (ap p (sym same) ∙ e))) (inl same)
  at_filter (y ∷ ys) x (inr s) e = two (p y)
      (λ t. subst (Stands x) (sym (ap (λ b. cond b (y ∷ filter p ys) (filter p ys)) t)) (inr (at_filter ys x s e)))
      (λ t. subst (Stands x) (sym (ap (λ b. cond b (y ∷ filter p ys) (filter p ys)) t)) (at_filter ys x s e))

  -- a test of the items that pass another
  pub any_filtered : (q : A → Bool) (xs : List A) → list_any p (filter q xs) ≡ list_any (λ x. q x && p x) xs
  any_filtered q [] = refl
  any_filtered q (x ∷ xs) = elim (q x) as (λ b. list_any p (cond b (x ∷ filter q xs) (filter q xs)) ≡ (b && p x || list_any (λ y. q y && p y) xs)) [
    | true ↦ ap (λ b. p x || b) (any_filtered q xs)
    | false ↦ any_filtered q xs
  ]

pub all_at : {A : Type 0} (P : A → Type 0) (xs : List A) (x : A) → AllByRecursion P xs → Stands x xs → P x
all_at P [] x all s = absurd s
all_at P (y ∷ ys) x all (inl same) = subst P (sym same) all.0
all_at P (y ∷ ys) x all (inr s) = all_at P ys x all.1 s

module _ {A B : Type 0} (f : A → B) where
  pub map_at : (xs : List A) (y : B) → Stands y (map f xs) → (x : A) × Stands x xs × (y ≡ f x)
  map_at [] y s = absurd s
  map_at (x ∷ xs) y (inl same) = (x, inl refl, same)
  map_at (x ∷ xs) y (inr s) = let more = map_at xs y s in (more.0, inr more.1, more.2)

  pub at_map : (xs : List A) (x : A) → Stands x xs → Stands (f x) (map f xs)
  at_map [] x s = absurd s
  at_map (y ∷ ys) x (inl same) = inl (ap f same)
  at_map (y ∷ ys) x (inr s) = inr (at_map ys x s)

  pub any_mapped : (p : B → Bool) (xs : List A) → list_any p (map f xs) ≡ list_any (λ x. p (f x)) xs
  any_mapped p [] = refl
  any_mapped p (x ∷ xs) = ap (λ b. p (f x) || b) (any_mapped p xs)

-- ---- lists one after another

module _ {A : Type 0} (p : A → Bool) where
  pub any_joined : (xs ys : List A) → list_any p (xs ++ ys) ≡ (list_any p xs || list_any p ys)
  any_joined [] ys = refl
  any_joined (x ∷ xs) ys = ap (λ b. p x || b) (any_joined xs ys) ∙ or_groups (p x) (list_any p xs) (list_any p ys)
    where
      or_groups : (a b c : Bool) → (a || (b || c)) ≡ ((a || b) || c)
      or_groups true b c = refl
      or_groups false b c = refl

  pub any_flat : {B : Type 0} (f : B → List A) (xs : List B) → list_any p (flat_map f xs) ≡ list_any (λ x. list_any p (f x)) xs
  any_flat f [] = refl
  any_flat f (x ∷ xs) = any_joined (f x) (flat_map f xs) ∙ ap (λ b. list_any p (f x) || b) (any_flat f xs)

  -- a list in order has the same items
  fold_any : (compare : A → A → Ordering) (xs held : List A) → list_any p (fold (placed compare) held xs) ≡ (list_any p xs || list_any p held)
  fold_any compare [] held = refl
  fold_any compare (x ∷ xs) held =
      fold_any compare xs (placed compare held x) ∙ ap (λ b. list_any p xs || b) (placed_any compare p x held) ∙ regroup (list_any p xs) (p x) (list_any p held)
    where
      regroup : (a b c : Bool) → (a || (b || c)) ≡ ((b || a) || c)
      regroup true true c = refl
      regroup true false c = refl
      regroup false true c = refl
      regroup false false c = refl

  pub any_in_order : (compare : A → A → Ordering) (xs : List A) → list_any p (in_order compare xs) ≡ list_any p xs
  any_in_order compare xs = fold_any compare xs [] ∙ or_none (list_any p xs)
    where
      or_none : (b : Bool) → (b || false) ≡ b
      or_none true = refl
      or_none false = refl

-- which of two lists is gone through first
pub any_swapped : {A B : Type 0} (p : A → B → Bool) (xs : List A) (ys : List B) → list_any (λ x. list_any (λ y. p x y) ys) xs ≡ list_any (λ y. list_any (λ x. p x y) xs) ys
any_swapped p xs ys = as_one (list_any (λ x. list_any (λ y. p x y) ys) xs) (list_any (λ y. list_any (λ x. p x y) xs) ys)
    (λ e. let x = some_at (λ x. list_any (λ y. p x y) ys) xs e in
    let y = some_at (λ y. p x.0 y) ys x.2 in
    at_some (λ y. list_any (λ x. p x y) xs) ys y.0 y.1 (at_some (λ x. p x y.0) xs x.0 x.1 y.2))
    (λ e. let y = some_at (λ y. list_any (λ x. p x y) xs) ys e in
    let x = some_at (λ x. p x y.0) xs y.2 in
    at_some (λ x. list_any (λ y. p x y) ys) xs x.0 x.1 (at_some (λ y. p x.0 y) ys y.0 y.1 x.2))
