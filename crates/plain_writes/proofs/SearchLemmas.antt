-- Lists in order: what two searches by halves leave out is apart from the item that is looked for.
use Rattle.std.proofs.Common.{◌≡◌, ◌<◌, ◌≤◌, ◌∙◌, refl, sym, ap, subst, ℕ, zero, suc, Bool, true, false, not, ◌&&◌, ◌||◌, List, [], ◌∷◌, ◌+◌, length, take, drop, fold, get_or, arith}
use Rattle.std.specs.Cmp.{IsTotalOrder, IsStrictWeakOrder}
use Rattle.std.specs.List.{list_any}
use Rattle.std.specs.List.Sorted.{IsPartitionPoint, IsPartitionedBy}
use Rattle.std.specs.Ordering.{is_eq, is_lt}
use Rattle.std.specs.declared.cmp.Ordering.{Ordering}
use Rattle.std.proofs.lemmas.Cmp.{on_total}
use Rattle.std.proofs.lemmas.List.{drop_all}
use Rattle.std.proofs.lemmas.List.Sorted.{ranks_by}
use Rattle.tuple_codec.proofs.Lists.{next_at}
use Rattle.tuple_codec.proofs.Truths.{and_none, left_so, not_false, not_true, or_none, two, or_turned}
use Rattle.tuple_codec.specs.Rows.{Cells, key_cmp, key_of, same_cells}
use Rattle.tuple_codec.proofs.Orders.{key_cmp_total}
use Rattle.schema_model.specs.declared.schemas.Schema.{Schema}
use Rattle.schema_model.specs.PlainTables.{primary_key}
use Rattle.plain_sql.specs.Lists.{in_order, placed}
use Rattle.plain_sql.specs.Runs.{places_cmp}
use Rattle.plain_sql.proofs.InsertionLemmas.{either_way, placed_any, turned}
use Rattle.plain_sql.proofs.SortedLemmas.{apart, before, falls_tail, in_order_falls, in_place, never_falls, none_same, tie_itself, tie_left, up_right, weak}
use Rattle.plain_writes.specs.Violations.{breaks_foreign, breaks_unique, broken, is_twin, is_whole}

-- ---- items left out of a search for one

any_drop : {A : Type 0} (p : A → Bool) (xs : List A) (n : ℕ) → ((k : ℕ) (d : A) → k < n → k < length xs → p (get_or xs k d) ≡ false) → list_any p (drop n xs) ≡ list_any p xs
any_drop p xs zero h = refl
any_drop p [] (suc n) h = refl
any_drop p (x ∷ xs) (suc n) h =
    any_drop p xs n (λ k d below short. h (suc k) d (omega (arith, below)) (omega (arith, short)))
    ∙ ap (λ b. b || list_any p xs) (sym (h 0 x (omega arith) (omega arith)))

any_take : {A : Type 0} (p : A → Bool) (xs : List A) (n : ℕ) → ((k : ℕ) (d : A) → n ≤ k → k < length xs → p (get_or xs k d) ≡ false) → list_any p (take n xs) ≡ list_any p xs
any_take p [] zero h = refl
any_take p [] (suc n) h = refl
any_take p (x ∷ xs) zero h =
    any_take p xs zero (λ k d above short. h (suc k) d (omega arith) (omega (arith, short)))
    ∙ ap (λ b. b || list_any p xs) (sym (h 0 x (omega arith) (omega arith)))
any_take p (x ∷ xs) (suc n) h = ap (λ b. p x || b) (any_take p xs n (λ k d above short. h (suc k) d (omega (arith, above)) (omega (arith, short))))

-- ---- lists in order

module _ {A : Type 0} (compare : A → A → Ordering) (total : IsTotalOrder compare) where
  fold_any : (p : A → Bool) (xs held : List A) → list_any p (fold (placed compare) held xs) ≡ (list_any p xs || list_any p held)
  fold_any p [] held = refl
  fold_any p (x ∷ xs) held =
      fold_any p xs (placed compare held x)
      ∙ ap (λ b. list_any p xs || b) (placed_any compare p x held)
      ∙ or_turned (list_any p xs) (p x) (list_any p held)

  -- the list in order has the same items
  pub in_order_any : (p : A → Bool) (xs : List A) → list_any p (in_order compare xs) ≡ list_any p xs
  in_order_any p xs = fold_any p xs [] ∙ or_none (list_any p xs)

  -- a list in order is in order as it stands
  pub again : (xs found : List A) → found ≡ in_order compare xs → found ≡ in_order compare found
  again xs found are =
      subst (λ (l : List A). l ≡ in_order compare l) (sym are) (sym (in_place compare total (in_order compare xs) (in_order_falls compare total xs)))

  falls : (xs : List A) → xs ≡ in_order compare xs → never_falls compare total xs ≡ true
  falls xs are = subst (λ (l : List A). never_falls compare total l ≡ true) (sym are) (in_order_falls compare total xs)

  least : (x : A) (ys : List A) → never_falls compare total (x ∷ ys) ≡ true → (k : ℕ) (d : A) → k < length ys → before compare total (get_or ys k d) x ≡ false
  least x [] f k d h = absurd (omega (arith, h))
  least x (y ∷ ys) f zero d h = not_true _ (left_so (not (before compare total y x)) (never_falls compare total (y ∷ ys)) f)
  least x (y ∷ ys) f (suc k) d h =
      (weak compare total).chain (get_or ys k d) y x (least y ys (falls_tail compare total x (y ∷ ys) f) k d (omega (arith, h)))
      (not_true _ (left_so (not (before compare total y x)) (never_falls compare total (y ∷ ys)) f))

  rising : (xs : List A) → never_falls compare total xs ≡ true → (i j : ℕ) (d : A) → i ≤ j → j < length xs → before compare total (get_or xs j d) (get_or xs i d) ≡ false
  rising [] f i j d le h = absurd (omega (arith, h))
  rising (x ∷ xs) f zero zero d le h = tie_left compare total x x (tie_itself compare total x)
  rising (x ∷ xs) f zero (suc j) d le h = least x xs f j d (omega (arith, h))
  rising (x ∷ xs) f (suc i) zero d le h = absurd (omega (arith, le))
  rising (x ∷ xs) f (suc i) (suc j) d le h = rising xs (falls_tail compare total x xs f) i j d (omega (arith, le)) (omega (arith, h))

  falls_drop : (n : ℕ) (xs : List A) → never_falls compare total xs ≡ true → never_falls compare total (drop n xs) ≡ true
  falls_drop zero xs f = f
  falls_drop (suc n) [] f = refl
  falls_drop (suc n) (x ∷ xs) f = falls_drop n xs (falls_tail compare total x xs f)

  -- those below an item stand before the others
  pub parted_below : (q : A) (xs : List A) → xs ≡ in_order compare xs → IsPartitionedBy (λ y. is_lt (compare y q)) xs
  parted_below q xs are i j d le h e = up_right compare total (get_or xs i d) (get_or xs j d) q e (rising xs (falls xs are) i j d le h)

  -- and of what is left those above it stand behind the others
  pub parted_rest : (q : A) (xs : List A) (from : ℕ) → xs ≡ in_order compare xs → IsPartitionedBy (λ y. not (is_lt (compare q y))) (drop from xs)
  parted_rest q xs from are i j d le h e =
      ap not ((weak compare total).chain q (get_or (drop from xs) j d) (get_or (drop from xs) i d) (not_true _ e) (rising (drop from xs) (falls_drop from xs (falls xs are)) i j d le h))

  below_apart : (q y : A) → is_lt (compare y q) ≡ true → is_eq (compare q y) ≡ false
  below_apart q y e = either_way compare total q y ∙ apart (compare y q) e

  -- a test that items apart from this one fail needs no others than those between
  pub any_run : (p : A → Bool) (q : A) → ((y : A) → is_eq (compare q y) ≡ false → p y ≡ false) → (xs : List A) (from count : ℕ)
      → IsPartitionPoint (λ y. is_lt (compare y q) ≡ true) (λ y. is_lt (compare y q) ≡ false) xs from
      → IsPartitionPoint (λ y. not (is_lt (compare q y)) ≡ true) (λ y. not (is_lt (compare q y)) ≡ false) (drop from xs) count
      → list_any p (take count (drop from xs)) ≡ list_any p xs
  any_run p q fails xs from count first last =
      any_take p (drop from xs) count (λ k d above short. fails (get_or (drop from xs) k d) (apart _ (not_false _ (last.1 k d above short))))
      ∙ any_drop p xs from (λ k d below short. fails (get_or xs k d) (below_apart q (get_or xs k d) (first.0 k d (omega arith) below)))

  -- ---- whether an item is among them

  head_tells : (q y : A) (ys : List A) → is_lt (compare y q) ≡ false → never_falls compare total (y ∷ ys) ≡ true → is_eq (compare q y) ≡ list_any (λ z. is_eq (compare q z)) (y ∷ ys)
  head_tells q y ys above f = two (is_eq (compare q y))
      (λ e. e ∙ sym (ap (λ b. b || list_any (λ z. is_eq (compare q z)) ys) e))
      (λ e. e ∙ sym (none_same compare total q y ys (turned compare total y q above (either_way compare total y q ∙ e)) f))

  among_rest : (q : A) (xs : List A) (from : ℕ) → IsPartitionPoint (λ y. is_lt (compare y q) ≡ true) (λ y. is_lt (compare y q) ≡ false) xs from
      → list_any (λ z. is_eq (compare q z)) (drop from xs) ≡ list_any (λ z. is_eq (compare q z)) xs
  among_rest q xs from first = any_drop (λ z. is_eq (compare q z)) xs from (λ k d below short. below_apart q (get_or xs k d) (first.0 k d (omega arith) below))

  -- the first of those that aren't below it tells
  pub found_there : (q : A) (xs : List A) (from : ℕ) (y : A) → xs ≡ in_order compare xs
      → IsPartitionPoint (λ z. is_lt (compare z q) ≡ true) (λ z. is_lt (compare z q) ≡ false) xs from → from < length xs → y ≡ get_or xs from y
      → is_eq (compare q y) ≡ list_any (λ z. is_eq (compare q z)) xs
  found_there q xs from y are first within is =
      head_tells q y (drop (from + 1) xs) (ap (λ z. is_lt (compare z q)) is ∙ first.1 from y (omega arith) within)
      (ap (never_falls compare total) (sym (next_at xs from y within is)) ∙ falls_drop from xs (falls xs are))
      ∙ ap (list_any (λ z. is_eq (compare q z))) (sym (next_at xs from y within is))
      ∙ among_rest q xs from first

  pub found_nowhere : (q : A) (xs : List A) (from : ℕ) → IsPartitionPoint (λ z. is_lt (compare z q) ≡ true) (λ z. is_lt (compare z q) ≡ false) xs from → length xs ≤ from
      → false ≡ list_any (λ z. is_eq (compare q z)) xs
  found_nowhere q xs from first behind = ap (list_any (λ z. is_eq (compare q z))) (sym (drop_all from xs behind)) ∙ among_rest q xs from first

-- ---- rows by their cells at places

pub places_total : (places : List ℕ) → IsTotalOrder (places_cmp places)
places_total places = on_total (key_of places) key_cmp_total

pub places_weak : (places : List ℕ) → IsStrictWeakOrder (λ a b. is_lt (places_cmp places a b))
places_weak places = ranks_by (places_total places) (λ (row : Cells). row)

pub keys_weak : IsStrictWeakOrder (λ a b. is_lt (key_cmp a b))
keys_weak = ranks_by key_cmp_total (λ (key : Cells). key)

-- a row with other cells is no twin
pub no_twin : (schema : Schema) (places : List ℕ) (row other : Cells) → is_eq (places_cmp places row other) ≡ false → is_twin schema places row other ≡ false
no_twin schema places row other e =
    ap (λ b. not (same_cells (primary_key schema row) (primary_key schema other)) && b) e ∙ and_none (not (same_cells (primary_key schema row) (primary_key schema other)))

-- rows in another order break the same
pub unique_alike : (schema : Schema) (name places : List ℕ) (rows sorted : List Cells) → sorted ≡ in_order (places_cmp places) rows
    → broken schema rows 2 name (breaks_unique schema sorted places) ≡ broken schema rows 2 name (breaks_unique schema rows places)
unique_alike schema name places rows sorted are =
    let any : (row : Cells) → list_any (is_twin schema places row) sorted ≡ list_any (is_twin schema places row) rows =
    λ row. ap (list_any (is_twin schema places row)) are ∙ in_order_any (places_cmp places) (places_total places) (is_twin schema places row) rows in
    ap (broken schema rows 2 name) (λ i row. is_whole (key_of places row) && any row i)

pub foreign_alike : (schema : Schema) (name places : List ℕ) (rows keys sorted : List Cells) → sorted ≡ in_order key_cmp keys
    → broken schema rows 1 name (breaks_foreign sorted places) ≡ broken schema rows 1 name (breaks_foreign keys places)
foreign_alike schema name places rows keys sorted are =
    let any : (row : Cells) → list_any (same_cells (key_of places row)) sorted ≡ list_any (same_cells (key_of places row)) keys =
    λ row. ap (list_any (same_cells (key_of places row))) are ∙ in_order_any key_cmp key_cmp_total (same_cells (key_of places row)) keys in
    ap (broken schema rows 1 name) (λ i row. is_whole (key_of places row) && not (any row i))
