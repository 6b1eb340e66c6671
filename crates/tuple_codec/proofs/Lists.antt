-- What is true of each element of a list, and what stands at a place of it.
use Rattle.std.proofs.Common.{◌≡◌, ◌<◌, refl, arith, ℕ, suc, List, [], ◌∷◌, length, ◌∙◌, ap, zero, ◌+◌, drop, Some, slice_get, ◌++◌, take, sym, subst, get_or, add-one, Bool, true, false, cond, ◌||◌, map, ◌≤◌}
use Rattle.std.proofs.Math.Seq.{drop-cons}
use Rattle.std.specs.List.{AllByRecursion, list_all, list_any}
use Rattle.std.proofs.lemmas.Bool.{and_from, and_parts, and_parts as both}
use Rattle.std.specs.Prelude.{◌&&◌, filter, if◌then◌else◌}
use Rattle.std.proofs.lemmas.List.{append-nil, drop_all, take_all}

pub none_below : {A : Type 0} (xs : List A) → length xs < 1 → xs ≡ []
none_below [] few = refl
none_below (x ∷ xs) few = absurd (nothing (length xs) few) where
  nothing : (n : ℕ) → suc n < 1 → ⊥
  nothing n few = omega arith

pub drop_at_get : {X : Type 0} (xs : List X) (i : ℕ) (x : X) → slice_get xs i ≡ Some x → drop i xs ≡ x ∷ drop (i + 1) xs
drop_at_get [] i x h = absurd (cc)
drop_at_get (y ∷ xs) zero x h = let same : y ≡ x = cc in ap (λ z. z ∷ xs) same
drop_at_get (y ∷ xs) (suc i) x h = let e : suc (i + 1) ≡ suc i + 1 = omega arith in drop_at_get xs i x h ∙ ap (λ n. x ∷ drop n (y ∷ xs)) e

pub take_at_get : {X : Type 0} (xs : List X) (i : ℕ) (x : X) → slice_get xs i ≡ Some x → take (i + 1) xs ≡ take i xs ++ x ∷ []
take_at_get [] i x h = absurd (cc)
take_at_get (y ∷ xs) zero x h = let same : y ≡ x = cc in ap (λ z. z ∷ []) same
take_at_get (y ∷ xs) (suc i) x h = let e : suc i + 1 ≡ suc (i + 1) = omega arith in ap (λ n. take n (y ∷ xs)) e ∙ ap (λ more. y ∷ more) (take_at_get xs i x h)

pub next_at : {A : Type 0} (xs : List A) (i : ℕ) (x : A) → i < length xs → x ≡ get_or xs i x → drop i xs ≡ x ∷ drop (i + 1) xs
next_at {A = A} xs i x h e = subst (λ (y : A). drop i xs ≡ y ∷ drop (i + 1) xs) (sym e) (rw (drop-cons xs i x, add-one i) refl)

pub take_whole : {A : Type 0} (xs : List A) → take (length xs) xs ≡ xs
take_whole [] = refl
take_whole (x ∷ xs) = ap (λ l. x ∷ l) (take_whole xs)

pub there_at : {X : Type 0} (xs : List X) (i : ℕ) → i < length xs → (x : X) × (slice_get xs i ≡ Some x)
there_at [] i below = absurd (omega arith)
there_at (x ∷ xs) zero below = (x, refl)
there_at (x ∷ xs) (suc i) below = there_at xs i (omega arith)

pub have_at : {A : Type 0} (P : A → Type 0) (xs : List A) (place : ℕ) (x : A) → AllByRecursion P xs → slice_get xs place ≡ Some x → P x
have_at P [] place x h e = cc
have_at P (y ∷ xs) zero x h e = let same : y ≡ x = cc in subst P same h.0
have_at P (y ∷ xs) (suc place) x h e = have_at P xs place x h.1 e

pub all_weaker : {A : Type 0} (p q : A → Bool) → ((x : A) → p x ≡ true → q x ≡ true) → (xs : List A) → list_all p xs ≡ true → list_all q xs ≡ true
all_weaker p q follows [] h = refl
all_weaker p q follows (x ∷ xs) h =
    let both = and_parts (p x) (list_all p xs) h in
    and_from (q x) (list_all q xs) (follows x both.0) (all_weaker p q follows xs both.1)

pub all_append : {A : Type 0} (p : A → Bool) (xs ys : List A) → list_all p xs ≡ true → list_all p ys ≡ true → list_all p (xs ++ ys) ≡ true
all_append p [] ys h k = k
all_append p (x ∷ xs) ys h k =
    let both = and_parts (p x) (list_all p xs) h in and_from (p x) (list_all p (xs ++ ys)) both.0 (all_append p xs ys both.1 k)

pub all_both : {A : Type 0} (p q : A → Bool) (xs : List A) → list_all p xs ≡ true → list_all q xs ≡ true → list_all (λ x. p x && q x) xs ≡ true
all_both p q [] h k = refl
all_both p q (x ∷ xs) h k =
    let a = and_parts (p x) (list_all p xs) h in
    let b = and_parts (q x) (list_all q xs) k in
    and_from (p x && q x) _ (and_from (p x) (q x) a.0 b.0) (all_both p q xs a.1 b.1)

pub all_left : {A : Type 0} (p q : A → Bool) (xs : List A) → list_all q xs ≡ true → list_all q (filter p xs) ≡ true
all_left p q [] all = refl
all_left p q (x ∷ xs) all =
    let parts = and_parts (q x) (list_all q xs) all in
    by_test (p x) parts.0 (all_left p q xs parts.1)
  where
    by_test : (b : Bool) → q x ≡ true → list_all q (filter p xs) ≡ true → list_all q (cond b (x ∷ filter p xs) (filter p xs)) ≡ true
    by_test true one more = and_from _ _ one more
    by_test false one more = more

pub all_at : {X : Type 0} (p : X → Bool) (xs : List X) (i : ℕ) (x : X) → slice_get xs i ≡ Some x → list_all p xs ≡ true → p x ≡ true
all_at p [] i x at h = absurd (cc)
all_at p (y ∷ xs) zero x at h = let same : y ≡ x = cc in ap p (sym same) ∙ (both (p y) (list_all p xs) h).0
all_at p (y ∷ xs) (suc i) x at h = all_at p xs i x at (both (p y) (list_all p xs) h).1

pub any_first : {A : Type 0} (test : A → Bool) (items : List A) (item : A) (more : List A) (found : Bool) → items ≡ item ∷ more → found ≡ test item → found ≡ true → true ≡ list_any test items
any_first test items item more found is told holds = sym (ap (list_any test) is ∙ ap (λ (b : Bool). b || list_any test more) (sym told ∙ holds))

pub any_later : {A : Type 0} (test : A → Bool) (items : List A) (item : A) (more : List A) (found rest : Bool) → items ≡ item ∷ more → found ≡ test item → found ≡ false → rest ≡ list_any test more
    → rest ≡ list_any test items
any_later test items item more found rest is told fails later = later ∙ sym (ap (list_any test) is ∙ ap (λ (b : Bool). b || list_any test more) (sym told ∙ fails))

pub any_map : {A B : Type 0} (p : B → Bool) (f : A → B) (xs : List A) → list_any p (map f xs) ≡ list_any (λ x. p (f x)) xs
any_map p f [] = refl
any_map p f (x ∷ xs) = ap (λ b. p (f x) || b) (any_map p f xs)

pub filter_few : {P : Type 0} (test : P → Bool) (xs : List P) → length (filter test xs) ≤ length xs
filter_few test [] = omega arith
filter_few test (x ∷ xs) = by (test x) (filter_few test xs) where
  by : (b : Bool) → length (filter test xs) ≤ length xs → length (if b then x ∷ filter test xs else filter test xs) ≤ suc (length xs)
  by true e = omega (arith, e)
  by false e = omega (arith, e)

pub all_mapped : {A B : Type 0} (f : A → B) (done : List B) (xs : List A) (i : ℕ) → length xs ≤ i → done ++ map f (drop i xs) ≡ map f xs → done ≡ map f xs
all_mapped f done xs i last e = sym (append-nil done) ∙ ap (λ rest. done ++ map f rest) (sym (drop_all i xs last)) ∙ e

-- what a loop that changes each element in its place comes to at its end
pub all_written : {A : Type 0} (f : A → A) (ys xs : List A) (i : ℕ) → length xs ≤ i → ys ≡ map f (take i xs) ++ drop i xs → ys ≡ map f xs
all_written f ys xs i last e = e ∙ ap (λ rest. map f (take i xs) ++ rest) (drop_all i xs last) ∙ append-nil (map f (take i xs)) ∙ ap (map f) (take_all i xs last)
