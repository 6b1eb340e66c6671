-- DELETE of entries by their keys leaves those that no test chooses: the keys.
use Rattle.std.proofs.Common.{◌≡◌, ◌+◌, ◌-◌, refl, sym, ap, ◌∙◌, subst, arith, ℕ, suc, Bool, true, false, cond, not, ◌||◌, is_lt, List, [], ◌∷◌, ◌++◌, Option, Some, Ok, Err, ◌⊎◌, inl, inr, filter, length, map, bytes_eq}
use Rattle.std.specs.Cmp.Lexicographic.{bytes_decides}
use Rattle.std.specs.List.{list_all}
use Rattle.std.proofs.lemmas.Bool.{and_from, and_parts}
use Rattle.tuple_codec.proofs.ByteLemmas.{bytes_itself as itself}
use Rattle.tuple_codec.proofs.Orderings.{less_is}
use Rattle.tuple_codec.proofs.Truths.{not_true}
use Rattle.conflict_tables.specs.Conflicts.{is_among}
use Rattle.tuple_codec.proofs.KeyOrders.{apart, less_trans}
use Rattle.expr_eval.specs.Binding.{Outcome, and_then}
use Rattle.plain_sessions.specs.SystemTables.{entries_left, entry_if, entry_left}
use Rattle.plain_sql.specs.Answers.{Meaning, passes}
use Rattle.plain_sql.specs.Lists.{all_of}
use Rattle.system_tables.specs.declared.entries.ListEntry.{ListEntry}
use Rattle.tuple_codec.specs.Edits.{order}
use Rattle.tuple_codec.specs.Nodes.{Item, RiseAfter}
use Rattle.plain_writes.proofs.RowOrderLemmas.{two}
use Rattle.session_txn.specs.Deleting.{chosen_key, chosen_keys, key_if}

-- ---- keys that rise are apart

module _ {A : Type 0} (key : A → List ℕ) where
  -- the key isn't among those of others
  abbrev pub IsNew : List ℕ → List A → Type 0
  IsNew k xs = list_all (λ x. not (bytes_eq (key x) k)) xs ≡ true

  abbrev pub AreApart : List A → Type 0
  AreApart [] = Unit {0}
  AreApart (x ∷ xs) = IsNew (key x) xs × AreApart xs

  module _ (item : A → Item) (same : (x : A) → (item x).key ≡ key x) where
    new_below : (k low : List ℕ) (xs : List A) → is_lt (order k low) ≡ true → RiseAfter (Some low) (map item xs) → IsNew k xs
    new_below k low [] below rise = refl
    new_below k low (x ∷ xs) below rise =
        let less = less_trans k low (item x).key (less_is (order k low) below) (less_is (order low (item x).key) rise.0) in
        and_from (not (bytes_eq (key x) k)) (list_all (λ y. not (bytes_eq (key y) k)) xs)
        (ap (λ (l : List ℕ). not (bytes_eq l k)) (sym (same x)) ∙ ap not (apart k (item x).key less))
        (new_below k (item x).key xs (ap is_lt less) rise.1)

    new_after : (k : List ℕ) (xs : List A) → RiseAfter (Some k) (map item xs) → IsNew k xs
    new_after k [] rise = refl
    new_after k (x ∷ xs) rise =
        and_from (not (bytes_eq (key x) k)) (list_all (λ y. not (bytes_eq (key y) k)) xs)
        (ap (λ (l : List ℕ). not (bytes_eq l k)) (sym (same x)) ∙ ap not (apart k (item x).key (less_is (order k (item x).key) rise.0)))
        (new_below k (item x).key xs rise.0 rise.1)

    pub are_apart : (before : Option (List ℕ)) (xs : List A) → RiseAfter before (map item xs) → AreApart xs
    are_apart before [] rise = tt
    are_apart before (x ∷ xs) rise = (subst (λ (k : List ℕ). IsNew k xs) (same x) (new_after (item x).key xs rise.1), are_apart (Some (item x).key) xs rise.1)

-- ---- those that are chosen

module _ {A B : Type 0} (f : A → Outcome (List B)) (x : A) (xs : List A) where
  all_ok : (ys more : List B) → f x ≡ Ok ys → all_of f xs ≡ Ok more → all_of f (x ∷ xs) ≡ Ok (ys ++ more)
  all_ok ys more p q =
      ap (λ (o : Outcome (List B)). and_then o (λ ys. and_then (all_of f xs) (λ more. Ok (ys ++ more)))) p ∙ ap (λ (o : Outcome (List B)). and_then o (λ more. Ok (ys ++ more))) q

  all_first : (number : ℕ) → f x ≡ Err number → all_of f (x ∷ xs) ≡ Err number
  all_first number p = ap (λ (o : Outcome (List B)). and_then o (λ ys. and_then (all_of f xs) (λ more. Ok (ys ++ more)))) p

  all_then : (ys : List B) (number : ℕ) → f x ≡ Ok ys → all_of f xs ≡ Err number → all_of f (x ∷ xs) ≡ Err number
  all_then ys number p q =
      ap (λ (o : Outcome (List B)). and_then o (λ ys. and_then (all_of f xs) (λ more. Ok (ys ++ more)))) p ∙ ap (λ (o : Outcome (List B)). and_then o (λ more. Ok (ys ++ more))) q

ok_same_by : {A : Type 0} {x y : A} → x ≡ y → ◌≡◌ {A = Outcome A} (Ok x) (Ok y)
ok_same_by e = ap Ok e

abbrev pub key_of : {A : Type 0} → (A → ListEntry) → A → List ℕ
key_of entry x = (entry x).key

module _ {A : Type 0} (entry : A → ListEntry) (tests : List Meaning) where
  abbrev left_by : List (List ℕ) → List A → List A
  left_by keys xs = filter (λ x. not (is_among keys (key_of entry x))) xs

  -- both come to a refusal
  abbrev pub IsRefused : List A → Type 0
  IsRefused xs = (number : ℕ) × (chosen_keys tests (map entry xs) ≡ Err number) × (entries_left tests (λ x. (entry x).row) xs ≡ Err number)

  -- these keys are chosen, and what has another key is left
  abbrev pub AreChosen : List A → List (List ℕ) → Type 0
  AreChosen xs keys =
      (chosen_keys tests (map entry xs) ≡ Ok keys) × (entries_left tests (λ x. (entry x).row) xs ≡ Ok (left_by keys xs)) × (length xs ≡ length keys + length (left_by keys xs))
      × ((k : List ℕ) → IsNew (key_of entry) k xs → is_among keys k ≡ false)

  abbrev pub Chosen : List A → Type 0
  Chosen xs = IsRefused xs ⊎ ((keys : List (List ℕ)) × AreChosen xs keys)

  -- a key before others that aren't it changes nothing for these
  passed : (k : List ℕ) (keys : List (List ℕ)) (xs : List A) → IsNew (key_of entry) k xs → left_by (k ∷ keys) xs ≡ left_by keys xs
  passed k keys [] new = refl
  passed k keys (x ∷ xs) new =
      let parts = and_parts (not (bytes_eq (key_of entry x) k)) (list_all (λ y. not (bytes_eq (key_of entry y) k)) xs) new in
      let other : bytes_eq k (key_of entry x) ≡ false = turned_apart k (key_of entry x) (not_true (bytes_eq (key_of entry x) k) parts.0) in
      let more = passed k keys xs parts.1 in
      (λ i. cond (not (other i || is_among keys (key_of entry x))) (x ∷ more i) (more i))
    where
      turned_apart : (a b : List ℕ) → bytes_eq b a ≡ false → bytes_eq a b ≡ false
      turned_apart a b h = two (bytes_eq a b)
          (λ t. let is : a ≡ b = (bytes_decides a b).0 t in let again : bytes_eq b a ≡ true = (bytes_decides b a).1 (sym is) in let wrong : true ≡ false = sym again ∙ h in absurd (cc))
          (λ t. t)

  one_chosen : (x : A) (xs : List A) (b : Bool) (keys : List (List ℕ)) → passes tests (entry x).row ≡ Ok b → IsNew (key_of entry) (key_of entry x) xs → chosen_keys tests (map entry xs) ≡ Ok keys
      → entries_left tests (λ y. (entry y).row) xs ≡ Ok (left_by keys xs) → length xs ≡ length keys + length (left_by keys xs) → ((k : List ℕ) → IsNew (key_of entry) k xs → is_among keys k ≡ false) → Chosen (x ∷ xs)
  one_chosen x xs true keys passed_so new chose left count none =
      let k = key_of entry x in
      let own : bytes_eq k k ≡ true = itself k in
      let here : left_by (k ∷ keys) (x ∷ xs) ≡ left_by keys xs = (λ i. cond (not (own i || is_among keys k)) (x ∷ left_by (k ∷ keys) xs) (left_by (k ∷ keys) xs)) ∙ passed k keys xs new in
      let size : length (left_by (k ∷ keys) (x ∷ xs)) ≡ length (left_by keys xs) = ap length here in
      inr (
        k ∷ keys,
        (
          (all_ok (chosen_key tests) (entry x) (map entry xs) (k ∷ []) keys (ap (λ (o : Outcome Bool). and_then o (λ chosen. Ok (key_if k chosen))) passed_so) chose),
          (all_ok (entry_left tests (λ y. (entry y).row)) x xs [] (left_by keys xs) (ap (λ (o : Outcome Bool). and_then o (λ chosen. Ok (entry_if x chosen))) passed_so) left ∙ ok_same_by (sym here)),
          omega (arith, count, size),
          (λ l other.
              let parts = and_parts (not (bytes_eq k l)) (list_all (λ y. not (bytes_eq (key_of entry y) l)) xs) other in
              ap (λ (b : Bool). b || is_among keys l) (not_true (bytes_eq k l) parts.0) ∙ none l parts.1),
        ),
      )
  one_chosen x xs false keys passed_so new chose left count none =
      let k = key_of entry x in
      let here : left_by keys (x ∷ xs) ≡ x ∷ left_by keys xs = ap (λ (b : Bool). cond (not b) (x ∷ left_by keys xs) (left_by keys xs)) (none k new) in
      let size : length (left_by keys (x ∷ xs)) ≡ suc (length (left_by keys xs)) = ap length here in
      inr (
        keys,
        (
          (all_ok (chosen_key tests) (entry x) (map entry xs) [] keys (ap (λ (o : Outcome Bool). and_then o (λ chosen. Ok (key_if k chosen))) passed_so) chose),
          (all_ok (entry_left tests (λ y. (entry y).row)) x xs (x ∷ []) (left_by keys xs) (ap (λ (o : Outcome Bool). and_then o (λ chosen. Ok (entry_if x chosen))) passed_so) left ∙ ok_same_by (sym here)),
          omega (arith, count, size),
          (λ l other. none l (and_parts (not (bytes_eq k l)) (list_all (λ y. not (bytes_eq (key_of entry y) l)) xs) other).1),
        ),
      )

  by_pass : (x : A) (xs : List A) (o : Outcome Bool) → passes tests (entry x).row ≡ o → IsNew (key_of entry) (key_of entry x) xs → Chosen xs → Chosen (x ∷ xs)
  by_pass x xs (Err number) is new rest = inl (
    number,
    (all_first (chosen_key tests) (entry x) (map entry xs) number (ap (λ (o : Outcome Bool). and_then o (λ chosen. Ok (key_if (key_of entry x) chosen))) is)),
    (all_first (entry_left tests (λ y. (entry y).row)) x xs number (ap (λ (o : Outcome Bool). and_then o (λ chosen. Ok (entry_if x chosen))) is)),
  )
  by_pass x xs (Ok b) is new (inl f) = inl (
    f.0,
    (all_then (chosen_key tests) (entry x) (map entry xs) (key_if (key_of entry x) b) f.0 (ap (λ (o : Outcome Bool). and_then o (λ chosen. Ok (key_if (key_of entry x) chosen))) is) f.1),
    (all_then (entry_left tests (λ y. (entry y).row)) x xs (entry_if x b) f.0 (ap (λ (o : Outcome Bool). and_then o (λ chosen. Ok (entry_if x chosen))) is) f.2),
  )
  by_pass x xs (Ok b) is new (inr c) = one_chosen x xs b c.0 is new c.1.0 c.1.1 c.1.2 c.1.3

  pub choice : (xs : List A) → AreApart (key_of entry) xs → Chosen xs
  choice [] separate = inr ([], (refl, refl, refl, λ k new. refl))
  choice (x ∷ xs) separate = by_pass x xs (passes tests (entry x).row) refl separate.0 (choice xs separate.1)
