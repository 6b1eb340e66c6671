-- Lists in which no item stands twice.
use Rattle.std.proofs.Common.{◌≡◌, refl, ap, ◌∙◌, ℕ, ◌+◌, Bool, true, false, not, List, [], ◌∷◌, ◌++◌, bytes_eq}
use Rattle.std.specs.Cmp.Lexicographic.{bytes_decides}
use Rattle.std.specs.List.{enumerate_from, flat_map, list_all, list_any}
use Rattle.std.specs.Ordering.{is_eq}
use Rattle.std.specs.declared.cmp.Ordering.{Ordering}
use Rattle.std.proofs.lemmas.Bool.{and_parts, not-true, not_from_false, or_parts}
use Rattle.std.proofs.lemmas.List.Folds.{list_all-append, list_any-append}
use Rattle.schema_model.specs.Schemas.{are_distinct}
use Rattle.plain_sql.specs.Lists.{has, repeats}
use Rattle.plain_writes.proofs.RowOrderLemmas.{both_so, neither_so}

-- ---- tests of all

pub all_so : {A : Type 0} (p q : A → Bool) (xs : List A) → ((x : A) → p x ≡ true → q x ≡ true) → list_all p xs ≡ true → list_all q xs ≡ true
all_so p q [] f h = refl
all_so p q (x ∷ xs) f h = let parts = and_parts (p x) (list_all p xs) h in both_so (f x parts.0) (all_so p q xs f parts.1)

pub flat_all : {A B : Type 0} (p : B → Bool) (ok : A → Bool) (f : A → List B) → ((x : A) → ok x ≡ true → list_all p (f x) ≡ true) → (xs : List A) → list_all ok xs ≡ true
    → list_all p (flat_map f xs) ≡ true
flat_all p ok f each [] h = refl
flat_all p ok f each (x ∷ xs) h =
    let parts = and_parts (ok x) (list_all ok xs) h in
    list_all-append p (f x) (flat_map f xs) ∙ both_so (each x parts.0) (flat_all p ok f each xs parts.1)

-- ---- of numbered items

pub numbered_all : {A : Type 0} (p : A → Bool) (n : ℕ) (xs : List A) → list_all p xs ≡ true → list_all (λ (x : ℕ × A). p x.1) (enumerate_from n xs) ≡ true
numbered_all p n [] h = refl
numbered_all p n (x ∷ xs) h = let parts = and_parts (p x) (list_all p xs) h in both_so parts.0 (numbered_all p (n + 1) xs parts.1)

numbered_none : {A : Type 0} (p : A → Bool) (n : ℕ) (xs : List A) → list_any p xs ≡ false → list_any (λ (x : ℕ × A). p x.1) (enumerate_from n xs) ≡ false
numbered_none p n [] h = refl
numbered_none p n (x ∷ xs) h = let parts = or_parts (p x) (list_any p xs) h in neither_so parts.0 (numbered_none p (n + 1) xs parts.1)

pub numbered_distinct : {A : Type 0} (same : A → A → Bool) (n : ℕ) (xs : List A) → are_distinct same xs ≡ true → are_distinct (λ (a b : ℕ × A). same a.1 b.1) (enumerate_from n xs) ≡ true
numbered_distinct same n [] h = refl
numbered_distinct same n (x ∷ xs) h =
    let parts = and_parts (not (list_any (same x) xs)) (are_distinct same xs) h in
    both_so (not_from_false _ (numbered_none (same x) (n + 1) xs (not-true _ parts.0))) (numbered_distinct same (n + 1) xs parts.1)

-- ---- none twice

module _ {A : Type 0} (compare : A → A → Ordering) where
  pub none_tied : (q : A → Bool) (x : A) (ys : List A) → ((y : A) → q y ≡ true → is_eq (compare x y) ≡ false) → list_all q ys ≡ true → has compare ys x ≡ false
  none_tied q x [] apart h = refl
  none_tied q x (y ∷ ys) apart h =
      let parts = and_parts (q y) (list_all q ys) h in
      neither_so (apart y parts.0) (none_tied q x ys apart parts.1)

  pub once_append : (p q : A → Bool) → ((x y : A) → p x ≡ true → q y ≡ true → is_eq (compare x y) ≡ false) → (xs ys : List A) → list_all p xs ≡ true → list_all q ys ≡ true
      → repeats compare xs ≡ false → repeats compare ys ≡ false → repeats compare (xs ++ ys) ≡ false
  once_append p q apart [] ys a b s t = t
  once_append p q apart (x ∷ xs) ys a b s t =
      let parts = and_parts (p x) (list_all p xs) a in
      let once = or_parts (has compare xs x) (repeats compare xs) s in
      neither_so (list_any-append (λ y. is_eq (compare x y)) xs ys ∙ neither_so once.0 (none_tied q x ys (λ y h. apart x y parts.0 h) b))
      (once_append p q apart xs ys parts.1 b once.1 t)

  -- lists that are made of items with different names, each item of the list having its name as a label
  module _ {B : Type 0} (name : B → List ℕ) (label : A → List ℕ) (f : B → List A) (apart : (x y : A) → bytes_eq (label x) (label y) ≡ false → is_eq (compare x y) ≡ false)
      (labelled : (x : B) → list_all (λ (v : A). bytes_eq (label v) (name x)) (f x) ≡ true) (once : (x : B) → repeats compare (f x) ≡ false) where
    others : (x : B) (xs : List B) → list_any (λ (y : B). bytes_eq (name x) (name y)) xs ≡ false → list_all (λ (w : A). not (bytes_eq (name x) (label w))) (flat_map f xs) ≡ true
    others x [] h = refl
    others x (y ∷ xs) h =
        let parts = or_parts (bytes_eq (name x) (name y)) (list_any (λ (y : B). bytes_eq (name x) (name y)) xs) h in
        list_all-append (λ (w : A). not (bytes_eq (name x) (label w))) (f y) (flat_map f xs)
        ∙ both_so (all_so (λ (v : A). bytes_eq (label v) (name y)) (λ (w : A). not (bytes_eq (name x) (label w))) (f y)
        (λ w e. ap not (ap (bytes_eq (name x)) ((bytes_decides (label w) (name y)).0 e) ∙ parts.0)) (labelled y)) (others x xs parts.1)

    pub once_flat : (xs : List B) → are_distinct (λ (a b : B). bytes_eq (name a) (name b)) xs ≡ true → repeats compare (flat_map f xs) ≡ false
    once_flat [] h = refl
    once_flat (x ∷ xs) h =
        let parts = and_parts (not (list_any (λ (y : B). bytes_eq (name x) (name y)) xs)) (are_distinct (λ (a b : B). bytes_eq (name a) (name b)) xs) h in
        once_append (λ (v : A). bytes_eq (label v) (name x)) (λ (w : A). not (bytes_eq (name x) (label w)))
        (λ v w p q. apart v w (ap (λ l. bytes_eq l (label w)) ((bytes_decides (label v) (name x)).0 p) ∙ not-true _ q))
        (f x) (flat_map f xs) (labelled x) (others x xs (not-true _ parts.0)) (once x) (once_flat xs parts.1)
