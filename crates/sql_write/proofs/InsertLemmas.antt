-- Rows put by edits: a key stands twice among edits in order and a table's items where it does among all rows, and else the edited items are
-- those of all rows in order.
use Rattle.std.proofs.Common.{◌≡◌, refl, sym, ap, ◌∙◌, subst, ℕ, ◌+◌, Bool, true, false, cond, not, ◌||◌, List, [], ◌∷◌, ◌++◌, filter, fold, map, Option, Some, None, is_some, bytes_eq}
use Rattle.std.specs.List.{AllByRecursion, list_all, list_any}
use Rattle.std.specs.Option.{option_map}
use Rattle.std.specs.Ordering.{is_eq, is_lt}
use Rattle.std.specs.declared.cmp.Ordering.{Ordering}
use Rattle.std.specs.List.Sorted.{ties}
use Rattle.std.proofs.lemmas.Map.Text.{is_eq-slice_cmp}
use Rattle.tuple_codec.proofs.ByteLemmas.{same_bytes as eq_key}
use Rattle.tuple_codec.proofs.Lists.{all_append}
use Rattle.tuple_codec.proofs.Options.{none_so}
use Rattle.tuple_codec.proofs.Truths.{not_false as not_true}
use Rattle.tuple_codec.specs.Edits.{EditsRiseAfter, edited, order, value_at}
use Rattle.tuple_codec.specs.KeyBytes.{key_bytes}
use Rattle.tuple_codec.specs.Nodes.{Item, Rise, RiseAfter}
use Rattle.tuple_codec.specs.Rows.{Cells}
use Rattle.tuple_codec.specs.declared.edits.Edit.{Edit}
use Rattle.schema_model.specs.PlainTables.{body_bytes, is_row, primary_key, rises, row_item}
use Rattle.schema_model.specs.Schemas.{is_schema}
use Rattle.schema_model.specs.declared.schemas.Schema.{Schema}
use Rattle.table_root.specs.Rows.{RowItemsFollow}
use Rattle.tuple_codec.specs.ByKey.{edit_at, over}
use Rattle.tuple_codec.proofs.Rising.{edited_all, edited_rise}
use Rattle.tuple_codec.proofs.EditedValues.{above, edited_value, edits_above, same_rows}
use Rattle.index_keep.specs.Entries.{AreSorted, comes_before, put_entry}
use Rattle.index_keep.specs.Steps.{AreApart}
use Rattle.index_keep.proofs.SortLemmas.{AreFew, AtMostOne, all_back, all_edits_sorted, all_filter, edit_tied, few_apart, few_tail, rise_sorted, same_edits, tied}
use Rattle.plain_sql.specs.Lists.{has, in_order, placed, repeats}
use Rattle.plain_writes.specs.Writes.{keyed_cmp}
use Rattle.plain_writes.proofs.DatabaseLemmas.{keyed_total}
use Rattle.plain_writes.proofs.RowOrderLemmas.{apart_next, both_so, clash, either_way, in_order_all, in_order_rises, left_not, left_so, neither_so, none_held, placed_all, placed_past, placed_stop, right_not, right_so, two}
use Rattle.sql_write.proofs.RiseLemmas.{are_leaves, items_rise}
use Rattle.sql_write.specs.Inserting.{edit_of, edit_order, meet_rows, repeats_key}

-- ---- tests

none_not : {A : Type 0} (o : Option A) → o ≡ None → is_some o ≡ false
none_not None h = refl
none_not (Some x) h = absurd (cc)

-- two tests that hold together are one
alike : (b c : Bool) → (b ≡ false → c ≡ false) → (c ≡ false → b ≡ false) → b ≡ c
alike true true p q = refl
alike true false p q = q refl
alike false true p q = sym (p refl)
alike false false p q = refl

any_append : {A : Type 0} (p : A → Bool) (xs ys : List A) → list_any p xs ≡ false → list_any p ys ≡ false → list_any p (xs ++ ys) ≡ false
any_append p [] ys a b = b
any_append p (x ∷ xs) ys a b = neither_so (left_not (p x) (list_any p xs) a) (any_append p xs ys (right_not (p x) (list_any p xs) a) b)

any_behind : {A : Type 0} (p : A → Bool) (xs ys : List A) → list_any p (xs ++ ys) ≡ false → list_any p ys ≡ false
any_behind p [] ys h = h
any_behind p (x ∷ xs) ys h = any_behind p xs ys (right_not (p x) (list_any p (xs ++ ys)) h)

any_before : {A : Type 0} (p : A → Bool) (xs ys : List A) → list_any p (xs ++ ys) ≡ false → list_any p xs ≡ false
any_before p [] ys h = refl
any_before p (x ∷ xs) ys h = neither_so (left_not (p x) (list_any p (xs ++ ys)) h) (any_before p xs ys (right_not (p x) (list_any p (xs ++ ys)) h))

none_of : {A : Type 0} (p : A → Bool) (xs : List A) → list_any p xs ≡ false → AllByRecursion (λ x. p x ≡ false) xs
none_of p [] h = tt
none_of p (x ∷ xs) h = (left_not (p x) (list_any p xs) h, none_of p xs (right_not (p x) (list_any p xs) h))

none_all : {A : Type 0} (p : A → Bool) (xs : List A) → AllByRecursion (λ x. p x ≡ false) xs → list_any p xs ≡ false
none_all p [] h = refl
none_all p (x ∷ xs) h = neither_so h.0 (none_all p xs h.1)

-- ---- edits in order

rises_so : (before : Option (List ℕ)) (edits : List Edit) → EditsRiseAfter before edits → rises edit_order edits ≡ true
rises_so before [] h = refl
rises_so before (edit ∷ []) h = refl
rises_so before (edit ∷ next ∷ edits) h = both_so h.1.0 (rises_so (Some edit.key) (next ∷ edits) h.1)

rise_from : (edit : Edit) (edits : List Edit) → rises edit_order (edit ∷ edits) ≡ true → EditsRiseAfter (Some edit.key) edits
rise_from edit [] h = tt
rise_from edit (next ∷ edits) h = (
  left_so (is_lt (order edit.key next.key)) (rises edit_order (next ∷ edits)) h,
  rise_from next edits (right_so (is_lt (order edit.key next.key)) (rises edit_order (next ∷ edits)) h),
)

pub rise_so : (edits : List Edit) → rises edit_order edits ≡ true → EditsRiseAfter None edits
rise_so [] h = tt
rise_so (edit ∷ edits) h = (refl, rise_from edit edits h)

-- rising edits are apart, also those of which they are a sorted list
apart_from : (edit : Edit) (edits : List Edit) → EditsRiseAfter (Some edit.key) edits → AreApart edits
apart_from edit [] h = tt
apart_from edit (next ∷ edits) h = (edits_above next.key edits h.1, apart_from next edits h.1)

apart_so : (edits : List Edit) → EditsRiseAfter None edits → AreApart edits
apart_so [] h = tt
apart_so (edit ∷ edits) h = (edits_above edit.key edits h.1, apart_from edit edits h.1)

one_left : (edit : Edit) (edits : List Edit) → AtMostOne (edit ∷ edits) → edits ≡ []
one_left edit [] one = refl
one_left edit (next ∷ edits) one = absurd one

apart_few : (edits : List Edit) → AreFew edits → AreApart edits
apart_few [] few = tt
apart_few (edit ∷ edits) few =
    let q = put_entry edit.key in
    let one : AtMostOne (edit ∷ filter (ties comes_before q) edits) = subst (λ t. AtMostOne (cond t (edit ∷ filter (ties comes_before q) edits) (filter (ties comes_before q) edits))) (tied q edit refl) (few q) in
    (sym (edit_tied edit.key edits) ∙ ap (λ (es : List Edit). edit_at edit.key es) (one_left edit (filter (ties comes_before q) edits) one), apart_few edits (few_tail edit edits few))

apart_back : (edits sorted : List Edit) → AreSorted edits sorted → AreApart sorted → AreApart edits
apart_back edits sorted are apart = apart_few edits (λ q. subst (λ (l : List Edit). AtMostOne l) (are.stable q) (few_apart sorted apart q))

all_edits_back : (P : Edit → Type 0) (edits sorted : List Edit) → AreSorted edits sorted → AllByRecursion P sorted → AllByRecursion P edits
all_edits_back P edits sorted are all = all_back P edits (λ q. subst (λ (l : List Edit). AllByRecursion P l) (are.stable q) (all_filter P (ties comes_before q) sorted all))

module _ (follow : RowItemsFollow) (schema : Schema) (is : is_schema schema ≡ true) where
  abbrev cmp : Cells → Cells → Ordering
  cmp = keyed_cmp schema

  abbrev name : Cells → List ℕ
  name row = key_bytes (primary_key schema row)

  abbrev items : List Cells → List Item
  items rows = map (row_item schema) rows

  abbrev edits_of : List Cells → List Edit
  edits_of rows = map (edit_of schema) rows

  abbrev Fit : List Cells → Type 0
  Fit rows = list_all (is_row schema) rows ≡ true

  fit_head : (row : Cells) (rows : List Cells) → Fit (row ∷ rows) → is_row schema row ≡ true
  fit_head row rows fit = left_so (is_row schema row) (list_all (is_row schema) rows) fit

  fit_tail : (row : Cells) (rows : List Cells) → Fit (row ∷ rows) → Fit rows
  fit_tail row rows fit = right_so (is_row schema row) (list_all (is_row schema) rows) fit

  -- ---- one row and another

  swap : (a b : Cells) → is_eq (cmp a b) ≡ is_eq (cmp b a)
  swap = either_way cmp (keyed_total schema)

  same_is : (a b : Cells) → is_row schema a ≡ true → is_row schema b ≡ true → bytes_eq (name a) (name b) ≡ is_eq (cmp b a)
  same_is a b fa fb = sym (is_eq-slice_cmp (name a) (name b)) ∙ ap is_eq (follow.order schema a b is fa fb) ∙ swap a b

  found_is : (row : Cells) (rows : List Cells) → is_row schema row ≡ true → Fit rows → is_some (value_at (name row) (items rows)) ≡ has cmp rows row
  found_is row [] fr fit = refl
  found_is row (other ∷ rows) fr fit =
      ap (λ b. is_some (cond b (Some (body_bytes schema other)) (value_at (name row) (items rows)))) (same_is other row (fit_head other rows fit) fr)
      ∙ by (is_eq (cmp row other)) (found_is row rows fr (fit_tail other rows fit)) where
        by : (b : Bool) → is_some (value_at (name row) (items rows)) ≡ has cmp rows row → is_some (cond b (Some (body_bytes schema other)) (value_at (name row) (items rows))) ≡ (b || has cmp rows row)
        by true e = refl
        by false e = e

  edit_value : (key : List ℕ) (rows : List Cells) → edit_at key (edits_of rows) ≡ option_map (λ (v : List ℕ). Some v) (value_at key (items rows))
  edit_value key [] = refl
  edit_value key (row ∷ rows) = by (bytes_eq (name row) key) (edit_value key rows) where
    by : (b : Bool) → edit_at key (edits_of rows) ≡ option_map (λ (v : List ℕ). Some v) (value_at key (items rows))
        → cond b (Some (Some (body_bytes schema row))) (edit_at key (edits_of rows)) ≡ option_map (λ (v : List ℕ). Some v) (cond b (Some (body_bytes schema row)) (value_at key (items rows)))
    by true e = refl
    by false e = e

  some_value : (key : List ℕ) (rows : List Cells) → is_some (edit_at key (edits_of rows)) ≡ is_some (value_at key (items rows))
  some_value key rows = ap is_some (edit_value key rows) ∙ by (value_at key (items rows)) where
    by : (o : Option (List ℕ)) → is_some (option_map (λ (v : List ℕ). Some v) o) ≡ is_some o
    by None = refl
    by (Some v) = refl

  -- where no row has the key of a row, no edit has it
  no_edit : (row : Cells) (rows : List Cells) → is_row schema row ≡ true → Fit rows → has cmp rows row ≡ false → edit_at (name row) (edits_of rows) ≡ None
  no_edit row rows fr fit none = none_so (edit_at (name row) (edits_of rows)) (some_value (name row) rows ∙ found_is row rows fr fit ∙ none)

  no_row : (row : Cells) (rows : List Cells) → is_row schema row ≡ true → Fit rows → edit_at (name row) (edits_of rows) ≡ None → has cmp rows row ≡ false
  no_row row rows fr fit none = sym (found_is row rows fr fit) ∙ sym (some_value (name row) rows) ∙ none_not (edit_at (name row) (edits_of rows)) none

  -- ---- keys that stand once

  apart_is : (rows : List Cells) → Fit rows → repeats cmp rows ≡ false → AreApart (edits_of rows)
  apart_is [] fit once = tt
  apart_is (row ∷ rows) fit once = (
    no_edit row rows (fit_head row rows fit) (fit_tail row rows fit) (left_not (has cmp rows row) (repeats cmp rows) once),
    apart_is rows (fit_tail row rows fit) (right_not (has cmp rows row) (repeats cmp rows) once),
  )

  once_is : (rows : List Cells) → Fit rows → AreApart (edits_of rows) → repeats cmp rows ≡ false
  once_is [] fit apart = refl
  once_is (row ∷ rows) fit apart = neither_so (no_row row rows (fit_head row rows fit) (fit_tail row rows fit) apart.0) (once_is rows (fit_tail row rows fit) apart.1)

  once_rising : (before : Option (List ℕ)) (rows : List Cells) → Fit rows → RiseAfter before (items rows) → repeats cmp rows ≡ false
  once_rising before [] fit rise = refl
  once_rising before (row ∷ rows) fit rise = neither_so
      (sym (found_is row rows (fit_head row rows fit) (fit_tail row rows fit)) ∙ none_not (value_at (name row) (items rows)) (above (name row) (items rows) rise.1))
      (once_rising (Some (name row)) rows (fit_tail row rows fit) rise.1)

  once_behind : (old rows : List Cells) → repeats cmp (old ++ rows) ≡ false → repeats cmp rows ≡ false
  once_behind [] rows once = once
  once_behind (row ∷ old) rows once = once_behind old rows (right_not (has cmp (old ++ rows) row) (repeats cmp (old ++ rows)) once)

  -- none of the rows has the key of a row, as that row says and as they do
  none_has : (row : Cells) (rows : List Cells) → list_any (λ other. is_eq (cmp other row)) rows ≡ has cmp rows row
  none_has row [] = refl
  none_has row (other ∷ rows) = λ i. swap other row i || none_has row rows i

  meets_first : (row : Cells) (old rows : List Cells) → list_any (has cmp (row ∷ old)) rows ≡ false → list_any (λ other. is_eq (cmp other row)) rows ≡ false
  meets_first row old [] none = refl
  meets_first row old (other ∷ rows) none = neither_so
      (left_not (is_eq (cmp other row)) (has cmp old other) (left_not (has cmp (row ∷ old) other) (list_any (has cmp (row ∷ old)) rows) none))
      (meets_first row old rows (right_not (has cmp (row ∷ old) other) (list_any (has cmp (row ∷ old)) rows) none))

  meets_rest : (row : Cells) (old rows : List Cells) → list_any (has cmp (row ∷ old)) rows ≡ false → list_any (has cmp old) rows ≡ false
  meets_rest row old [] none = refl
  meets_rest row old (other ∷ rows) none = neither_so
      (right_not (is_eq (cmp other row)) (has cmp old other) (left_not (has cmp (row ∷ old) other) (list_any (has cmp (row ∷ old)) rows) none))
      (meets_rest row old rows (right_not (has cmp (row ∷ old) other) (list_any (has cmp (row ∷ old)) rows) none))

  meets_both : (row : Cells) (old rows : List Cells) → list_any (λ other. is_eq (cmp other row)) rows ≡ false → list_any (has cmp old) rows ≡ false → list_any (has cmp (row ∷ old)) rows ≡ false
  meets_both row old [] one two_ = refl
  meets_both row old (other ∷ rows) one two_ = neither_so
      (neither_so (left_not (is_eq (cmp other row)) (list_any (λ o. is_eq (cmp o row)) rows) one) (left_not (has cmp old other) (list_any (has cmp old) rows) two_))
      (meets_both row old rows (right_not (is_eq (cmp other row)) (list_any (λ o. is_eq (cmp o row)) rows) one) (right_not (has cmp old other) (list_any (has cmp old) rows) two_))

  cross : (old rows : List Cells) → repeats cmp (old ++ rows) ≡ false → list_any (has cmp old) rows ≡ false
  cross [] rows once = none_held cmp (keyed_total schema) rows
  cross (row ∷ old) rows once = meets_both row old rows
      (none_has row rows ∙ any_behind (λ other. is_eq (cmp row other)) old rows (left_not (has cmp (old ++ rows) row) (repeats cmp (old ++ rows)) once))
      (cross old rows (right_not (has cmp (old ++ rows) row) (repeats cmp (old ++ rows)) once))

  once_all : (old rows : List Cells) → repeats cmp old ≡ false → list_any (has cmp old) rows ≡ false → repeats cmp rows ≡ false → repeats cmp (old ++ rows) ≡ false
  once_all [] rows one none once = once
  once_all (row ∷ old) rows one none once = neither_so
      (any_append (λ other. is_eq (cmp row other)) old rows (left_not (has cmp old row) (repeats cmp old) one) (sym (none_has row rows) ∙ meets_first row old rows none))
      (once_all old rows (right_not (has cmp old row) (repeats cmp old) one) (meets_rest row old rows none) once)

  abbrev Missed : List Cells → Edit → Type 0
  Missed old edit = is_some (value_at edit.key (items old)) ≡ false

  missed_are : (old rows : List Cells) → Fit old → Fit rows → list_any (has cmp old) rows ≡ false → AllByRecursion (Missed old) (edits_of rows)
  missed_are old [] fo fit none = tt
  missed_are old (row ∷ rows) fo fit none = (
    found_is row old (fit_head row rows fit) fo ∙ left_not (has cmp old row) (list_any (has cmp old) rows) none,
    missed_are old rows fo (fit_tail row rows fit) (right_not (has cmp old row) (list_any (has cmp old) rows) none),
  )

  missed_back : (old rows : List Cells) → Fit old → Fit rows → AllByRecursion (Missed old) (edits_of rows) → list_any (has cmp old) rows ≡ false
  missed_back old [] fo fit all = refl
  missed_back old (row ∷ rows) fo fit all = neither_so (sym (found_is row old (fit_head row rows fit) fo) ∙ all.0) (missed_back old rows fo (fit_tail row rows fit) all.1)

  pub rising : (old rows : List Cells) (sorted : List Edit) → Fit rows → AreSorted (edits_of rows) sorted → repeats cmp (old ++ rows) ≡ false → EditsRiseAfter None sorted
  rising old rows sorted fit are once = rise_sorted (edits_of rows) sorted are (apart_is rows fit (once_behind old rows once))

  pub repeats_is : (old rows : List Cells) (sorted : List Edit) → Fit old → Rise (items old) → Fit rows → AreSorted (edits_of rows) sorted
      → repeats_key (items old) sorted ≡ repeats cmp (old ++ rows)
  repeats_is old rows sorted fo rise fit are = alike (repeats_key (items old) sorted) (repeats cmp (old ++ rows))
      (λ none.
      let up = rise_so sorted (not_true (rises edit_order sorted) (left_not (not (rises edit_order sorted)) (meet_rows (items old) sorted) none)) in
      let missed = all_edits_back (Missed old) (edits_of rows) sorted are (none_of (λ (edit : Edit). is_some (value_at edit.key (items old))) sorted (right_not (not (rises edit_order sorted)) (meet_rows (items old) sorted) none)) in
      once_all old rows (once_rising None old fo rise) (missed_back old rows fo fit missed) (once_is rows fit (apart_back (edits_of rows) sorted are (apart_so sorted up))))
      (λ once. neither_so (ap not (rises_so None sorted (rising old rows sorted fit are once)))
      (none_all (λ (edit : Edit). is_some (value_at edit.key (items old))) sorted (all_edits_sorted (Missed old) (edits_of rows) sorted are (missed_are old rows fo fit (cross old rows once)))))

  -- ---- the items of all rows in order

  value_skip : (some other : Bool) (x y : List ℕ) (rest : Option (List ℕ)) → (some ≡ true → other ≡ true → ⊥)
      → cond other (Some y) (cond some (Some x) rest) ≡ cond some (Some x) (cond other (Some y) rest)
  value_skip true true x y rest apart = absurd (apart refl refl)
  value_skip true false x y rest apart = refl
  value_skip false other x y rest apart = refl

  -- rows of different keys don't both have this one
  one_key : (a b : Cells) (key : List ℕ) → is_row schema a ≡ true → is_row schema b ≡ true → is_eq (cmp a b) ≡ false → bytes_eq (name a) key ≡ true → bytes_eq (name b) key ≡ true → ⊥
  one_key a b key fa fb apart p q =
      let same : bytes_eq (name a) (name b) ≡ true = ap (λ (k : List ℕ). bytes_eq (name a) k) (eq_key (name b) key q) ∙ p in
      clash same (same_is a b fa fb ∙ swap b a ∙ apart)

  value_placed : (key : List ℕ) (row : Cells) (held : List Cells) → is_row schema row ≡ true → Fit held → has cmp held row ≡ false
      → value_at key (items (placed cmp held row)) ≡ cond (bytes_eq (name row) key) (Some (body_bytes schema row)) (value_at key (items held))
  value_placed key row [] fr fit none = refl
  value_placed key row (other ∷ held) fr fit none = two (is_lt (cmp row other))
      (λ e. ap (λ (l : List Cells). value_at key (items l)) (placed_stop cmp row other held e))
      (λ e. ap (λ (l : List Cells). value_at key (items l)) (placed_past cmp row other held e)
      ∙ ap (λ (v : Option (List ℕ)). cond (bytes_eq (name other) key) (Some (body_bytes schema other)) v) (value_placed key row held fr (fit_tail other held fit) (right_not (is_eq (cmp row other)) (has cmp held row) none))
      ∙ value_skip (bytes_eq (name row) key) (bytes_eq (name other) key) (body_bytes schema row) (body_bytes schema other) (value_at key (items held))
      (λ p q. one_key row other key fr (fit_head other held fit) (left_not (is_eq (cmp row other)) (has cmp held row) none) p q))

  -- a row that no edit meets
  over_one : (b : Bool) (edit : Option (Option (List ℕ))) (value : List ℕ) (old : Option (List ℕ)) → (b ≡ true → edit ≡ None)
      → over edit (cond b (Some value) old) ≡ over (cond b (Some (Some value)) edit) old
  over_one true edit value old none = ap (λ (e : Option (Option (List ℕ))). over e (Some value)) (none refl)
  over_one false edit value old none = refl

  no_edit_at : (key : List ℕ) (row : Cells) (rows : List Cells) → is_row schema row ≡ true → Fit rows → has cmp rows row ≡ false → bytes_eq (name row) key ≡ true → edit_at key (edits_of rows) ≡ None
  no_edit_at key row rows fr fit none p = ap (λ (k : List ℕ). edit_at k (edits_of rows)) (sym (eq_key (name row) key p)) ∙ no_edit row rows fr fit none

  values_fold : (key : List ℕ) (rows held : List Cells) → Fit rows → Fit held → list_any (has cmp held) rows ≡ false → repeats cmp rows ≡ false
      → value_at key (items (fold (placed cmp) held rows)) ≡ over (edit_at key (edits_of rows)) (value_at key (items held))
  values_fold key [] held fit fh none once = refl
  values_fold key (row ∷ rows) held fit fh none once =
      let fr = fit_head row rows fit in
      let ft = fit_tail row rows fit in
      let apart = left_not (has cmp rows row) (repeats cmp rows) once in
      values_fold key rows (placed cmp held row) ft (placed_all cmp (is_row schema) row held ∙ both_so fr fh)
      (apart_next cmp (keyed_total schema) row rows held (right_not (has cmp held row) (list_any (has cmp held) rows) none) apart)
      (right_not (has cmp rows row) (repeats cmp rows) once)
      ∙ ap (λ (v : Option (List ℕ)). over (edit_at key (edits_of rows)) v) (value_placed key row held fr fh (left_not (has cmp held row) (list_any (has cmp held) rows) none))
      ∙ over_one (bytes_eq (name row) key) (edit_at key (edits_of rows)) (body_bytes schema row) (value_at key (items held)) (λ p. no_edit_at key row rows fr ft apart p)

  values_join : (key : List ℕ) (old rows : List Cells) → Fit old → Fit rows → repeats cmp (old ++ rows) ≡ false
      → over (edit_at key (edits_of (old ++ rows))) None ≡ over (edit_at key (edits_of rows)) (value_at key (items old))
  values_join key [] rows fo fit once = refl
  values_join key (row ∷ old) rows fo fit once = by (bytes_eq (name row) key) refl
      (values_join key old rows (fit_tail row old fo) fit (right_not (has cmp (old ++ rows) row) (repeats cmp (old ++ rows)) once)) where
        by : (b : Bool) → bytes_eq (name row) key ≡ b → over (edit_at key (edits_of (old ++ rows))) None ≡ over (edit_at key (edits_of rows)) (value_at key (items old))
            → over (cond b (Some (Some (body_bytes schema row))) (edit_at key (edits_of (old ++ rows)))) None ≡ over (edit_at key (edits_of rows)) (cond b (Some (body_bytes schema row)) (value_at key (items old)))
        by true e more = sym (ap (λ (o : Option (Option (List ℕ))). over o (Some (body_bytes schema row)))
            (no_edit_at key row rows (fit_head row old fo) fit (any_behind (λ other. is_eq (cmp row other)) old rows (left_not (has cmp (old ++ rows) row) (repeats cmp (old ++ rows)) once)) e))
        by false e more = more

  all_fit : (old rows : List Cells) → Fit old → Fit rows → Fit (old ++ rows)
  all_fit old rows fo fit = all_append (is_row schema) old rows fo fit

  pub edited_is : (old rows : List Cells) (sorted : List Edit) → Fit old → Rise (items old) → Fit rows → AreSorted (edits_of rows) sorted → repeats cmp (old ++ rows) ≡ false
      → items (in_order cmp (old ++ rows)) ≡ edited (items old) sorted
  edited_is old rows sorted fo rise fit are once =
      let fits = all_fit old rows fo fit in
      let up = rising old rows sorted fit are once in
      let all = in_order cmp (old ++ rows) in
      sym (same_rows (edited (items old) sorted) (items all) None
      (edited_rise (items old) None sorted rise up)
      (items_rise follow schema all is (in_order_all cmp (is_row schema) (old ++ rows) fits) (in_order_rises cmp (keyed_total schema) (old ++ rows) once))
      (edited_all (λ (item : Item). item.rows ≡ 1) (λ k v. refl) (items old) (are_leaves schema old) sorted) (are_leaves schema all)
      (λ key. edited_value key (items old) None sorted rise up
      ∙ ap (λ (e : Option (Option (List ℕ))). over e (value_at key (items old))) (same_edits (edits_of rows) sorted are key)
      ∙ sym (values_fold key (old ++ rows) [] fits refl (none_held cmp (keyed_total schema) (old ++ rows)) once ∙ values_join key old rows fo fit once)))
