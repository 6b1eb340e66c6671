-- The rows with one cell, of rows in the order of their cells there; and rows that give nothing.
use Rattle.std.proofs.Common.{◌≡◌, ◌<◌, ◌≤◌, ◌∙◌, refl, sym, ap, subst, ℕ, zero, suc, ◌+◌, ◌-◌, Bool, true, false, true≢false, cond, not, ◌&&◌, List, [], ◌∷◌, ◌++◌, Ok, Option, None, Some, length, take, drop, filter, get_or, nat_eq, arith}
use Rattle.std.specs.Cmp.{IsTotalOrder, IsStrictWeakOrder}
use Rattle.std.proofs.lemmas.Bool.Decides.{nat_tests}
use Rattle.std.specs.List.{list_all}
use Rattle.std.specs.Option.{IfSome}
use Rattle.std.specs.List.Sorted.{IsPartitionPoint, IsPartitionedBy}
use Rattle.std.specs.Ordering.{is_le, is_lt, ordering_reverse}
use Rattle.std.specs.declared.cmp.Ordering.{Ordering}
use Rattle.std.specs.declared.cmp.Ordering.TheVariants.{Less, Equal, Greater}
use Rattle.std.proofs.lemmas.Cmp.{on_total}
use Rattle.std.proofs.lemmas.List.{get_or-drop, length-drop, take_more}
use Rattle.std.proofs.lemmas.List.Sorted.{ranks_by}
use Rattle.tuple_codec.proofs.Truths.{left_so, two, not_true as not_so}
use Rattle.tuple_codec.specs.Rows.{Cells, cell_at, same_value, value_cmp}
use Rattle.tuple_codec.specs.declared.values.Value.{Value}
use Rattle.tuple_codec.specs.declared.values.Value.TheVariants as cell
use Rattle.tuple_codec.proofs.Orders.{value_cmp_total}
use Rattle.expr_eval.specs.Binding.{Outcome, and_then}
use Rattle.plain_sql.specs.Answers.{Meaning, combinations, is_null, kept_row}
use Rattle.plain_sql.specs.Links.{AreServed, ServesLookup, Skips, Sorts, cell_cmp, has_cell, meets, suits, suits_at, tried, tried_by, tried_with}
use Rattle.plain_sql.specs.Lists.{all_of, behind, in_order}
use Rattle.plain_sql.specs.Nesting.{kept_from}
use Rattle.plain_sql.specs.declared.linking.Link.{Link}
use Rattle.plain_sql.specs.declared.lookups.Lookup.{Lookup}
use Rattle.plain_sql.specs.declared.sources.Read.{Read}
use Rattle.plain_sql.proofs.InsertionLemmas.{clash, right_so}
use Rattle.plain_sql.proofs.NestedLemmas.{behind_nothing, nested, rest_is}
use Rattle.plain_sql.proofs.RunLemmas.{level_test}
use Rattle.plain_sql.proofs.SortedLemmas.{before, falls_tail, fold_ties, in_order_falls, never_falls, tie_itself, tie_left, tie_of, tie_right, tied, tied_test, up_right, weak}

-- ---- items left out

filter_before : {A : Type 0} (p : A → Bool) (xs : List A) (n : ℕ) → ((k : ℕ) (d : A) → k < n → k < length xs → p (get_or xs k d) ≡ false) → filter p xs ≡ filter p (drop n xs)
filter_before p xs zero h = refl
filter_before p [] (suc n) h = refl
filter_before p (x ∷ xs) (suc n) h =
    ap (λ b. cond b (x ∷ filter p xs) (filter p xs)) (h 0 x (omega arith) (omega arith))
    ∙ filter_before p xs n (λ k d below short. h (suc k) d (omega (arith, below)) (omega (arith, short)))

filter_until : {A : Type 0} (p : A → Bool) (xs : List A) (n : ℕ) → ((k : ℕ) (d : A) → k < n → k < length xs → p (get_or xs k d) ≡ true)
    → ((k : ℕ) (d : A) → n ≤ k → k < length xs → p (get_or xs k d) ≡ false) → filter p xs ≡ take n xs
filter_until p [] zero h g = refl
filter_until p [] (suc n) h g = refl
filter_until p (x ∷ xs) zero h g =
    ap (λ b. cond b (x ∷ filter p xs) (filter p xs)) (g 0 x (omega arith) (omega arith))
    ∙ filter_until p xs zero (λ k d below short. absurd (omega (arith, below))) (λ k d above short. g (suc k) d (omega arith) (omega (arith, short)))
filter_until p (x ∷ xs) (suc n) h g =
    ap (λ b. cond b (x ∷ filter p xs) (filter p xs)) (h 0 x (omega arith) (omega arith))
    ∙ ap (λ l. x ∷ l) (filter_until p xs n (λ k d below short. h (suc k) d (omega (arith, below)) (omega (arith, short))) (λ k d above short. g (suc k) d (omega (arith, above)) (omega (arith, short))))

pub all_of_filter : {A B : Type 0} (f : A → Outcome (List B)) (good p : A → Bool) (xs : List A) → ((x : A) → good x ≡ true → p x ≡ false → f x ≡ Ok []) → list_all good xs ≡ true
    → all_of f (filter p xs) ≡ all_of f xs
all_of_filter f good p [] skip h = refl
all_of_filter f good p (x ∷ xs) skip h =
    let more = all_of_filter f good p xs skip (right_so (good x) (list_all good xs) h) in
    two (p x)
    (λ e. ap (λ b. all_of f (cond b (x ∷ filter p xs) (filter p xs))) e ∙ ap (behind (f x)) more)
    (λ e. ap (λ b. all_of f (cond b (x ∷ filter p xs) (filter p xs))) e ∙ more ∙ sym (behind_nothing (all_of f xs)) ∙ ap (λ o. behind o (all_of f xs)) (sym (skip x (left_so (good x) (list_all good xs) h) e)))

-- ---- an order's items

at_most : (o r : Ordering) → r ≡ ordering_reverse o → is_le o ≡ not (is_lt r)
at_most Less r e = ap (λ s. not (is_lt s)) (sym e)
at_most Equal r e = ap (λ s. not (is_lt s)) (sym e)
at_most Greater r e = ap (λ s. not (is_lt s)) (sym e)

module _ {A : Type 0} (compare : A → A → Ordering) (total : IsTotalOrder compare) where
  head_least : (x : A) (ys : List A) → never_falls compare total (x ∷ ys) ≡ true → (k : ℕ) (d : A) → k < length ys → before compare total (get_or ys k d) x ≡ false
  head_least x [] f k d h = absurd (omega (arith, h))
  head_least x (y ∷ ys) f zero d h = not_so _ (left_so (not (before compare total y x)) (never_falls compare total (y ∷ ys)) f)
  head_least x (y ∷ ys) f (suc k) d h =
      (weak compare total).chain (get_or ys k d) y x (head_least y ys (falls_tail compare total x (y ∷ ys) f) k d (omega (arith, h)))
      (not_so _ (left_so (not (before compare total y x)) (never_falls compare total (y ∷ ys)) f))

  never_back : (xs : List A) → never_falls compare total xs ≡ true → (i j : ℕ) (d : A) → i ≤ j → j < length xs → before compare total (get_or xs j d) (get_or xs i d) ≡ false
  never_back [] f i j d le h = absurd (omega (arith, h))
  never_back (x ∷ xs) f zero zero d le h = tie_left compare total x x (tie_itself compare total x)
  never_back (x ∷ xs) f zero (suc j) d le h = head_least x xs f j d (omega (arith, h))
  never_back (x ∷ xs) f (suc i) zero d le h = absurd (omega (arith, le))
  never_back (x ∷ xs) f (suc i) (suc j) d le h = never_back xs (falls_tail compare total x xs f) i j d (omega (arith, le)) (omega (arith, h))

  falls_drop : (n : ℕ) (xs : List A) → never_falls compare total xs ≡ true → never_falls compare total (drop n xs) ≡ true
  falls_drop zero xs f = f
  falls_drop (suc n) [] f = refl
  falls_drop (suc n) (x ∷ xs) f = falls_drop n xs (falls_tail compare total x xs f)

  upto : (q x : A) → is_le (compare x q) ≡ not (before compare total q x)
  upto q x = at_most (compare x q) (compare q x) (total.antisymm q x)

  parted_below : (q : A) (xs : List A) → never_falls compare total xs ≡ true → IsPartitionedBy (λ y. is_lt (compare y q)) xs
  parted_below q xs f i j d le h e = up_right compare total (get_or xs i d) (get_or xs j d) q e (never_back xs f i j d le h)

  parted_upto : (q : A) (xs : List A) → never_falls compare total xs ≡ true → IsPartitionedBy (λ y. is_le (compare y q)) xs
  parted_upto q xs f i j d le h e =
      upto q (get_or xs i d)
      ∙ ap not ((weak compare total).chain q (get_or xs j d) (get_or xs i d) (not_so _ (sym (upto q (get_or xs j d)) ∙ e)) (never_back xs f i j d le h))

  not_tied_below : (q x : A) → is_lt (compare x q) ≡ true → tied compare total q x ≡ false
  not_tied_below q x e = two (tied compare total q x) (λ t. clash e (tie_right compare total q x t)) (λ n. n)

  not_tied_above : (q x : A) → is_le (compare x q) ≡ false → tied compare total q x ≡ false
  not_tied_above q x e = two (tied compare total q x) (λ t. clash (upto q x ∙ ap not (tie_left compare total q x t)) e) (λ n. n)

  tied_between : (q x : A) → is_lt (compare x q) ≡ false → is_le (compare x q) ≡ true → tied compare total q x ≡ true
  tied_between q x e f = tie_of compare total q x (not_so _ (sym (upto q x) ∙ f)) e

  -- where two binary searches end is what ties with the item
  run_found : (q : A) (xs : List A) (from count : ℕ) → never_falls compare total xs ≡ true → from ≤ length xs → count ≤ length (drop from xs)
      → IsPartitionPoint (λ y. is_lt (compare y q) ≡ true) (λ y. is_lt (compare y q) ≡ false) xs from
      → IsPartitionPoint (λ y. is_le (compare y q) ≡ true) (λ y. is_le (compare y q) ≡ false) (drop from xs) count
      → filter (tied compare total q) xs ≡ take count (drop from xs)
  run_found q xs from count f start end first last =
      filter_before (tied compare total q) xs from (λ k d below short. not_tied_below q (get_or xs k d) (first.0 k d (omega arith) below))
      ∙ filter_until (tied compare total q) (drop from xs) count
      (λ k d below short. tied_between q (get_or (drop from xs) k d) (not_below k d short) (last.0 k d (omega arith) below))
      (λ k d above short. not_tied_above q (get_or (drop from xs) k d) (last.1 k d above short))
    where
      not_below : (k : ℕ) (d : A) → k < length (drop from xs) → is_lt (compare (get_or (drop from xs) k d) q) ≡ false
      not_below k d short =
          let many = length-drop from xs in
          ap (λ x. is_lt (compare x q)) (get_or-drop from xs k d) ∙ first.1 (from + k) d (omega arith) (omega (arith, many, short))

-- ---- rows by a cell

pub cells_total : (place : ℕ) → IsTotalOrder (cell_cmp place)
cells_total place = on_total (λ (row : Cells). cell_at row place) value_cmp_total

pub cells_weak : (place : ℕ) → IsStrictWeakOrder (λ a b. is_lt (cell_cmp place a b))
cells_weak place = ranks_by (cells_total place) (λ (row : Cells). row)

-- a row with this cell
abbrev probe : ℕ → Value → Cells
probe zero key = key ∷ []
probe (suc place) key = cell.Null ∷ probe place key

probe_is : (place : ℕ) (key : Value) → cell_at (probe place key) place ≡ key
probe_is zero key = refl
probe_is (suc place) key = probe_is place key

same_tie : (place : ℕ) (q x : Cells) → tied (cell_cmp place) (cells_total place) q x ≡ same_value (cell_at q place) (cell_at x place)
same_tie place q x = tied_test (cell_cmp place) (cells_total place) q x ∙ level_test (cell_cmp place q x) (cell_cmp place x q) ((cells_total place).antisymm x q)

-- what the two searches find
abbrev Found : ℕ → Value → List Cells → ℕ → ℕ → Type 0
Found place key rows from count =
    IsPartitionPoint (λ y. is_lt (value_cmp (cell_at y place) key) ≡ true) (λ y. is_lt (value_cmp (cell_at y place) key) ≡ false) rows from
    × IsPartitionPoint (λ y. is_le (value_cmp (cell_at y place) key) ≡ true) (λ y. is_le (value_cmp (cell_at y place) key) ≡ false) (drop from rows) count

found_by : (place : ℕ) (q : Cells) (all : List Cells) (from count : ℕ) → from ≤ length (in_order (cell_cmp place) all) → count ≤ length (drop from (in_order (cell_cmp place) all))
    → Found place (cell_at q place) (in_order (cell_cmp place) all) from count
    → take count (drop from (in_order (cell_cmp place) all)) ≡ filter (λ x. same_value (cell_at q place) (cell_at x place)) all
found_by place q all from count start end found =
    sym (run_found (cell_cmp place) (cells_total place) q (in_order (cell_cmp place) all) from count (in_order_falls (cell_cmp place) (cells_total place) all) start end found.0 found.1)
    ∙ fold_ties (cell_cmp place) (cells_total place) q all [] refl
    ∙ ap (λ p. filter p all) (λ i x. same_tie place q x i)

found_key : (place : ℕ) (key : Value) (all : List Cells) (from count : ℕ) → from ≤ length (in_order (cell_cmp place) all) → count ≤ length (drop from (in_order (cell_cmp place) all))
    → Found place key (in_order (cell_cmp place) all) from count
    → take count (drop from (in_order (cell_cmp place) all)) ≡ filter (λ x. same_value key (cell_at x place)) all
found_key place key all from count start end =
    subst (λ v. Found place v (in_order (cell_cmp place) all) from count → take count (drop from (in_order (cell_cmp place) all)) ≡ filter (λ x. same_value v (cell_at x place)) all)
    (probe_is place key) (found_by place (probe place key) all from count start end)

meets_same : (key : Value) (x : Value) → is_null key ≡ false → meets key x ≡ same_value key x
meets_same key x e = ap (λ b. not b && same_value key x) e

pub none_met : (place : ℕ) (key : Value) (all : List Cells) → is_null key ≡ true → [] ≡ filter (has_cell place key) all
none_met place key [] e = refl
none_met place key (x ∷ all) e =
    none_met place key all e ∙ sym (ap (λ b. cond (not b && same_value key (cell_at x place)) (x ∷ filter (has_cell place key) all) (filter (has_cell place key) all)) e)

pub rows_found : (place : ℕ) (key : Value) (rows all : List Cells) (from count : ℕ) → rows ≡ in_order (cell_cmp place) all → is_null key ≡ false → from ≤ length rows → count ≤ length (drop from rows)
    → Found place key rows from count → take count (drop from rows) ≡ filter (has_cell place key) all
rows_found place key rows all from count are some start end found =
    ap (λ l. take count (drop from l)) are
    ∙ found_key place key all from count
    (subst (λ (l : List Cells). from ≤ length l) are start) (subst (λ (l : List Cells). count ≤ length (drop from l)) are end)
    (subst (λ (l : List Cells). Found place key l from count) are found)
    ∙ ap (λ p. filter p all) (λ i x. sym (meets_same key (cell_at x place) some) i)

parted_first_by : (place : ℕ) (q : Cells) (all : List Cells) → IsPartitionedBy (λ y. is_lt (value_cmp (cell_at y place) (cell_at q place))) (in_order (cell_cmp place) all)
parted_first_by place q all = parted_below (cell_cmp place) (cells_total place) q (in_order (cell_cmp place) all) (in_order_falls (cell_cmp place) (cells_total place) all)

pub parted_first : (place : ℕ) (key : Value) (rows all : List Cells) → rows ≡ in_order (cell_cmp place) all → IsPartitionedBy (λ y. is_lt (value_cmp (cell_at y place) key)) rows
parted_first place key rows all are =
    subst (λ (l : List Cells). IsPartitionedBy (λ y. is_lt (value_cmp (cell_at y place) key)) l) (sym are)
    (subst (λ v. IsPartitionedBy (λ y. is_lt (value_cmp (cell_at y place) v)) (in_order (cell_cmp place) all)) (probe_is place key) (parted_first_by place (probe place key) all))

parted_rest_by : (place : ℕ) (q : Cells) (all : List Cells) (from : ℕ) → IsPartitionedBy (λ y. is_le (value_cmp (cell_at y place) (cell_at q place))) (drop from (in_order (cell_cmp place) all))
parted_rest_by place q all from =
    parted_upto (cell_cmp place) (cells_total place) q (drop from (in_order (cell_cmp place) all))
    (falls_drop (cell_cmp place) (cells_total place) from (in_order (cell_cmp place) all) (in_order_falls (cell_cmp place) (cells_total place) all))

pub parted_rest : (place : ℕ) (key : Value) (rows all : List Cells) (from : ℕ) → rows ≡ in_order (cell_cmp place) all → IsPartitionedBy (λ y. is_le (value_cmp (cell_at y place) key)) (drop from rows)
parted_rest place key rows all from are =
    subst (λ (l : List Cells). IsPartitionedBy (λ y. is_le (value_cmp (cell_at y place) key)) (drop from l)) (sym are)
    (subst (λ v. IsPartitionedBy (λ y. is_le (value_cmp (cell_at y place) v)) (drop from (in_order (cell_cmp place) all))) (probe_is place key) (parted_rest_by place (probe place key) all from))

-- ---- a source's rows

pub serves_by : (tests : List Meaning) (rows : List Cells) (link : Link) (width : ℕ) (lookup : Lookup) → Skips tests width link → Sorts link width rows lookup → ServesLookup tests rows lookup
serves_by tests rows link width lookup skips sorts = record {
  skips = subst (λ (l : Link). Skips tests lookup.width l) (sym sorts.link_is) (subst (λ w. Skips tests w link) (sym sorts.width_is) skips);
  rows_are = sorts.rows_are ∙ ap (λ (l : Link). in_order (cell_cmp l.place) rows) (sym sorts.link_is);
  alike = subst (λ (l : Link). list_all (suits_at l.kind l.place) rows ≡ true) (sym sorts.link_is) sorts.alike;
}

nothing_of : {A B : Type 0} (f : A → Outcome (List B)) (xs : List A) → ((x : A) → f x ≡ Ok []) → all_of f xs ≡ Ok []
nothing_of f [] h = refl
nothing_of f (x ∷ xs) h = ap (λ o. behind o (all_of f xs)) (h x) ∙ ap (behind (Ok [])) (nothing_of f xs h)

-- whatever the sources behind have
nothing_from : (tests : List Meaning) (sources : List (List Cells)) (row : Cells) → ((more : Cells) → kept_row tests (row ++ more) ≡ Ok []) → kept_from tests sources row ≡ Ok []
nothing_from tests sources row h = nested tests sources row ∙ nothing_of (λ more. kept_row tests (row ++ more)) (combinations sources) h

-- what is kept behind a row, of these rows and the sources behind them
abbrev kept_behind : List Meaning → List (List Cells) → Cells → List Cells → Outcome (List Cells)
kept_behind tests sources row rows = all_of (λ more. kept_from tests sources (row ++ more)) rows

found_same : (tests : List Meaning) (sources : List (List Cells)) (rows : List Cells) (lookup : Lookup) (row : Cells) → ServesLookup tests rows lookup → length row ≡ lookup.width
    → suits lookup.link.kind (cell_at row lookup.link.earlier) ≡ true
    → kept_behind tests sources row (filter (has_cell lookup.link.place (cell_at row lookup.link.earlier)) rows) ≡ kept_behind tests sources row rows
found_same tests sources rows lookup row serves wide fit =
    all_of_filter (λ more. kept_from tests sources (row ++ more)) (suits_at lookup.link.kind lookup.link.place) (has_cell lookup.link.place (cell_at row lookup.link.earlier)) rows
    (λ more good apart. nothing_from tests sources (row ++ more)
    (λ behind. serves.skips row more behind record { wide = wide; earlier = fit; later = good; apart = apart }))
    serves.alike

wide_of : (row : Cells) (width : ℕ) → nat_eq (length row) width ≡ true → length row ≡ width
wide_of row width h = grind (arith, nat_tests)

with_same : (tests : List Meaning) (sources : List (List Cells)) (rows : List Cells) (lookup : Lookup) (row : Cells) → ServesLookup tests rows lookup → length row ≡ lookup.width
    → kept_behind tests sources row (tried_with rows lookup (cell_at row lookup.link.earlier)) ≡ kept_behind tests sources row rows
with_same tests sources rows lookup row serves wide =
    let key = cell_at row lookup.link.earlier in
    let choose : Bool → Outcome (List Cells) = λ b. kept_behind tests sources row (cond b (filter (has_cell lookup.link.place key) rows) rows) in
    two (suits lookup.link.kind key)
    (λ e. ap choose e ∙ found_same tests sources rows lookup row serves wide e)
    (λ e. ap choose e)

by_same : (tests : List Meaning) (sources : List (List Cells)) (rows : List Cells) (lookup : Lookup) (row : Cells) → ServesLookup tests rows lookup
    → kept_behind tests sources row (tried_by rows lookup row) ≡ kept_behind tests sources row rows
by_same tests sources rows lookup row serves =
    let choose : Bool → Outcome (List Cells) = λ b. kept_behind tests sources row (cond b (tried_with rows lookup (cell_at row lookup.link.earlier)) rows) in
    two (nat_eq (length row) lookup.width)
    (λ e. ap choose e ∙ with_same tests sources rows lookup row serves (wide_of row lookup.width e))
    (λ e. ap choose e)

pub tried_same : (tests : List Meaning) (sources : List (List Cells)) (rows : List Cells) (lookup : Option Lookup) (row : Cells) → IfSome lookup (ServesLookup tests rows)
    → all_of (λ more. kept_from tests sources (row ++ more)) (tried rows lookup row) ≡ all_of (λ more. kept_from tests sources (row ++ more)) rows
tried_same tests sources rows None row serves = refl
tried_same tests sources rows (Some lookup) row serves = by_same tests sources rows lookup row serves

-- ---- a lookup for each source

served_end : (tests : List Meaning) (sources : List Read) (lookups : List (Option Lookup)) (source : Read) (lookup : Option Lookup)
    → AreServed tests sources lookups → IfSome lookup (ServesLookup tests source.rows) → AreServed tests (sources ++ source ∷ []) (lookups ++ lookup ∷ [])
served_end tests [] [] source lookup are one = (one, tt)
served_end tests [] (y ∷ lookups) source lookup are one = absurd are
served_end tests (x ∷ sources) [] source lookup are one = absurd are
served_end tests (x ∷ sources) (y ∷ lookups) source lookup are one = (are.0, served_end tests sources lookups source lookup are.1 one)

pub served_more : (tests : List Meaning) (sources : List Read) (lookups : List (Option Lookup)) (i : ℕ) (source : Read) (lookup : Option Lookup) → i < length sources → source ≡ get_or sources i source
    → AreServed tests (take i sources) lookups → IfSome lookup (ServesLookup tests source.rows) → AreServed tests (take (i + 1) sources) (lookups ++ lookup ∷ [])
served_more tests sources lookups i source lookup below is are one =
    subst (λ (l : List Read). AreServed tests l (lookups ++ lookup ∷ [])) (ap (λ x. take i sources ++ x ∷ []) is ∙ sym (take_more sources i source below))
    (served_end tests (take i sources) lookups source lookup are one)

pub served_first : (tests : List Meaning) (sources : List Read) (lookups : List (Option Lookup)) (source : Read) (lookup : Option Lookup)
    → 1 ≤ length sources → 1 ≤ length lookups → source ≡ get_or sources 0 source → lookup ≡ get_or lookups 0 lookup → AreServed tests sources lookups → IfSome lookup (ServesLookup tests source.rows)
served_first tests [] lookups source lookup some any is other are = absurd (omega (arith, some))
served_first tests (x ∷ sources) [] source lookup some any is other are = absurd (omega (arith, any))
served_first tests (x ∷ sources) (y ∷ lookups) source lookup some any is other are =
    subst (λ (o : Option Lookup). IfSome o (ServesLookup tests source.rows)) (sym other) (subst (λ (s : Read). IfSome y (ServesLookup tests s.rows)) (sym is) are.0)
