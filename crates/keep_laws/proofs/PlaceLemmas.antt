-- Where the first item stands that passes a test, by recursion over the list.
use Rattle.std.proofs.Common.{◌≡◌, ◌<◌, ◌≤◌, refl, sym, ap, ◌∙◌, subst, ℕ, suc, ◌+◌, Bool, true, false, cond, not, ◌||◌, ltb, List, [], ◌∷◌, length, Option, Some, None, arith}
use Rattle.std.specs.List.{list_any, position, position_or_len, slice_get}
use Rattle.std.specs.Option.{option_map}
use Rattle.std.proofs.lemmas.Bool.{le-ltb, lt-ltb, ltb-false, ltb-true}
use Rattle.plain_writes.proofs.RowOrderLemmas.{neither_so, two}

module _ {A : Type 0} (p : A → Bool) where
  here : (x : A) (xs : List A) → p x ≡ true → position p (x ∷ xs) ≡ Some 0
  here x xs e =
      ap (λ b. cond (ltb (cond (not b) (1 + position_or_len p xs) 0) (suc (length xs))) (Some (cond (not b) (1 + position_or_len p xs) 0)) None) e
      ∙ ap (λ b. cond b (Some 0) None) (lt-ltb 0 (suc (length xs)) (omega arith))

  later_by : (k n : ℕ) (b : Bool) → ltb k n ≡ b → cond (ltb (1 + k) (suc n)) (Some (1 + k)) None ≡ option_map suc (cond b (Some k) None)
  later_by k n true e =
      let below : k < n = ltb-true k n e in
      let at : 1 + k ≡ suc k = omega arith in
      ap (λ b. cond b (Some (1 + k)) None) (lt-ltb (1 + k) (suc n) (omega arith)) ∙ ap Some at
  later_by k n false e = let above : n ≤ k = ltb-false k n e in ap (λ b. cond b (Some (1 + k)) None) (le-ltb (1 + k) (suc n) (omega arith))

  later : (x : A) (xs : List A) → p x ≡ false → position p (x ∷ xs) ≡ option_map suc (position p xs)
  later x xs e =
      ap (λ b. cond (ltb (cond (not b) (1 + position_or_len p xs) 0) (suc (length xs))) (Some (cond (not b) (1 + position_or_len p xs) 0)) None) e
      ∙ later_by (position_or_len p xs) (length xs) (ltb (position_or_len p xs) (length xs)) refl

  mapped_none : (o : Option ℕ) → option_map suc o ≡ None → o ≡ None
  mapped_none None e = refl
  mapped_none (Some n) e = cc

  mapped_some : (o : Option ℕ) (place : ℕ) → option_map suc o ≡ Some place → (before : ℕ) × (o ≡ Some before) × (suc before ≡ place)
  mapped_some (Some n) place e = (n, refl, cc)
  mapped_some None place e = cc

  pub no_place : (xs : List A) → position p xs ≡ None → list_any p xs ≡ false
  no_place [] e = refl
  no_place (x ∷ xs) e = two (p x)
      (λ t. let found : Some 0 ≡ None = sym (here x xs t) ∙ e in cc)
      (λ t. neither_so t (no_place xs (mapped_none (position p xs) (sym (later x xs t) ∙ e))))

  pub some_place : (xs : List A) → list_any p xs ≡ true → (place : ℕ) × (position p xs ≡ Some place)
  some_place [] e = cc
  some_place (x ∷ xs) e = two (p x)
      (λ t. (0, here x xs t))
      (λ t. let rest = some_place xs (sym (ap (λ b. b || list_any p xs) t) ∙ e) in (suc rest.0, later x xs t ∙ ap (option_map suc) rest.1))

  abbrev pub Passes : List A → ℕ → Type 0
  Passes xs place = (x : A) × (slice_get xs place ≡ Some x) × (p x ≡ true)

  pub at_place : (xs : List A) (place : ℕ) → position p xs ≡ Some place → (place < length xs) × Passes xs place
  at_place [] place e = let none : position p [] ≡ None = refl in cc
  at_place (x ∷ xs) place e = two (p x)
      (λ t. let same : 0 ≡ place = first_is place (sym (here x xs t) ∙ e) in subst (λ n. (n < suc (length xs)) × Passes (x ∷ xs) n) same (omega arith, (x, refl, t)))
      (λ t. let before = mapped_some (position p xs) place (sym (later x xs t) ∙ e) in
      let rest = at_place xs before.0 before.1 in
      let below = rest.0 in
      subst (λ n. (n < suc (length xs)) × Passes (x ∷ xs) n) before.2 (omega (arith, below), rest.1))
    where
      first_is : (n : ℕ) → Some 0 ≡ Some n → 0 ≡ n
      first_is n h = cc
