-- Rows that come in place of others: which of them changes bring, and that the limits are kept where those keep them.
use Rattle.std.proofs.Common.{◌≡◌, ◌<◌, ◌≤◌, ◌+◌, refl, sym, ap, ◌∙◌, subst, ℕ, zero, suc, true, false, Bool, ◌&&◌, List, [], ◌∷◌, length, map, drop, get_or, Option, Some, None, bytes_eq, arith}
use Rattle.std.specs.Prelude.{if◌then◌else◌}
use Rattle.std.specs.List.{list_all}
use Rattle.std.specs.Ordering.{match_ordering}
use Rattle.std.specs.declared.cmp.Ordering.TheVariants.{Less, Equal, Greater}
use Rattle.std.proofs.lemmas.Bool.{and_parts}
use Rattle.std.proofs.lemmas.List.{drop_more, drop_all}
use Rattle.tuple_codec.proofs.ByteLemmas.{same_bytes as eq_key}
use Rattle.tuple_codec.proofs.Options.{some_is as some_same}
use Rattle.tuple_codec.specs.Edits.{added, against, all_added, changed, order, removed, replaced}
use Rattle.tuple_codec.specs.Nodes.{Item}
use Rattle.tuple_codec.specs.Rows.{Cells}
use Rattle.tuple_codec.specs.declared.edits.ItemChange.{ItemChange}
use Rattle.schema_model.specs.Limits.{is_row_within_limits}
use Rattle.schema_model.specs.PlainTables.{body_bytes, is_row, row_item}
use Rattle.schema_model.specs.Schemas.{is_schema}
use Rattle.schema_model.specs.declared.schemas.Schema.{Schema}
use Rattle.tuple_codec.proofs.KeyOrders.{same_key}
use Rattle.table_root.specs.Rows.{IsRowOf, RowItemsFollow}
use Rattle.root_merge.specs.Changing.{AreBrought, IsBroughtRow, is_short_perhaps}

-- ---- one change

pub none_brought : (schema : Schema) (change : ItemChange) (row : Option Cells) → change.new ≡ None → IsBroughtRow schema change row → true ≡ is_short_perhaps schema row
none_brought schema change None none is = refl
none_brought schema change (Some row) none is = absurd (cc (sym none ∙ is.1))

-- the row that a value is
pub record IsRowHere (schema : Schema) (change : ItemChange) (value : List ℕ) (row : Option Cells) : Type 0 where
  pub cells : Cells
  pub is : IsRowOf schema change.key value cells
  pub row_is : row ≡ Some cells

pub row_brought : (schema : Schema) (change : ItemChange) (value : List ℕ) (row : Option Cells) → change.new ≡ Some value → IsBroughtRow schema change row → IsRowHere schema change value row
row_brought schema change value None there is = absurd (cc (sym is ∙ there))
row_brought schema change value (Some cells) there is = record {
  cells = cells;
  is = subst (λ (v : List ℕ). IsRowOf schema change.key v cells) (some_same is.0 value (sym is.1 ∙ there)) is.2;
  row_is = refl;
}

-- ---- a loop over changes

pub brought_at : (schema : Schema) (changes : List ItemChange) (rows : List (Option Cells)) → AreBrought schema changes rows → (at : ℕ) (change : ItemChange) → at < length changes
    → change ≡ get_or changes at change → IsBroughtRow schema change (get_or rows at None)
brought_at schema [] rows are at change below is = absurd (omega (arith, below))
brought_at schema (first ∷ changes) [] are at change below is = absurd are
brought_at schema (first ∷ changes) (row ∷ rows) are zero change below is = subst (λ (c : ItemChange). IsBroughtRow schema c row) (sym is) are.0
brought_at schema (first ∷ changes) (row ∷ rows) are (suc at) change below is = brought_at schema changes rows are.1 at change (omega (arith, below)) is

pub brought_many : (schema : Schema) (changes : List ItemChange) (rows : List (Option Cells)) → AreBrought schema changes rows → length rows ≡ length changes
brought_many schema [] [] are = refl
brought_many schema [] (row ∷ rows) are = absurd are
brought_many schema (change ∷ changes) [] are = absurd are
brought_many schema (change ∷ changes) (row ∷ rows) are = ap suc (brought_many schema changes rows are.1)

next_of : {A : Type 0} (test : A → Bool) (rows : List A) (at : ℕ) (other : A) → at < length rows
    → list_all test (drop at rows) ≡ (test (get_or rows at other) && list_all test (drop (at + 1) rows))
next_of test rows at other below = ap (λ list. list_all test list) (drop_more rows at other below)

pub one_passes : {A : Type 0} (test : A → Bool) (rows : List A) (at : ℕ) (other : A) → at < length rows → test (get_or rows at other) ≡ true
    → list_all test (drop at rows) ≡ list_all test rows → list_all test (drop (at + 1) rows) ≡ list_all test rows
one_passes test rows at other below passes so_far =
    sym (ap (λ b. b && list_all test (drop (at + 1) rows)) passes) ∙ sym (next_of test rows at other below) ∙ so_far

pub one_fails : {A : Type 0} (test : A → Bool) (rows : List A) (at : ℕ) (other : A) → at < length rows → test (get_or rows at other) ≡ false
    → list_all test (drop at rows) ≡ list_all test rows → false ≡ list_all test rows
one_fails test rows at other below fails so_far =
    sym (ap (λ b. b && list_all test (drop (at + 1) rows)) fails) ∙ sym (next_of test rows at other below) ∙ so_far

pub all_pass : {A : Type 0} (test : A → Bool) (rows : List A) (at : ℕ) → length rows ≤ at → list_all test (drop at rows) ≡ list_all test rows → true ≡ list_all test rows
all_pass test rows at past so_far = sym (ap (λ list. list_all test list) (drop_all at rows past)) ∙ so_far

-- ---- the rows that changes bring

module _ (follow : RowItemsFollow) (schema : Schema) (valid : is_schema schema ≡ true) where
  abbrev items : List Cells → List Item
  items rows = map (row_item schema) rows

  abbrev fit : List Cells → Type 0
  fit rows = list_all (is_row schema) rows ≡ true

  -- these rows are brought, and they keep the limits where all do
  pub record AreNews (others : List Cells) (changes : List ItemChange) : Type 0 where
    pub news : List (Option Cells)
    pub brought : AreBrought schema changes news
    pub limits : list_all (is_short_perhaps schema) news ≡ list_all (is_row_within_limits schema) others

  none_more : (others : List Cells) (change : ItemChange) (changes : List ItemChange) → change.new ≡ None → AreNews others changes → AreNews others (change ∷ changes)
  none_more others change changes none more = record { news = None ∷ more.news; brought = (none, more.brought); limits = more.limits }

  one_more : (other : Cells) (others : List Cells) (change : ItemChange) (changes : List ItemChange) → IsBroughtRow schema change (Some other) → AreNews others changes
      → AreNews (other ∷ others) (change ∷ changes)
  one_more other others change changes is more = record {
    news = Some other ∷ more.news;
    brought = (is, more.brought);
    limits = ap (λ b. is_row_within_limits schema other && b) more.limits;
  }

  passed : (other : Cells) (others : List Cells) (changes : List ItemChange) → is_row_within_limits schema other ≡ true → AreNews others changes → AreNews (other ∷ others) changes
  passed other others changes short more = record {
    news = more.news;
    brought = more.brought;
    limits = more.limits ∙ sym (ap (λ b. b && list_all (is_row_within_limits schema) others) short);
  }

  is_added : (other : Cells) → is_row schema other ≡ true → IsBroughtRow schema (added (row_item schema other)) (Some other)
  is_added other fits = (body_bytes schema other, refl, record { fits = fits; key = refl; value = refl })

  is_replaced : (row other : Cells) → is_row schema other ≡ true → order (row_item schema other).key (row_item schema row).key ≡ Equal
      → IsBroughtRow schema (replaced (row_item schema row) (row_item schema other)) (Some other)
  is_replaced row other fits same =
      (body_bytes schema other, refl, record { fits = fits; key = same_key (row_item schema other).key (row_item schema row).key same; value = refl })

  one_row : (row other : Cells) → is_row schema row ≡ true → is_row schema other ≡ true → order (row_item schema other).key (row_item schema row).key ≡ Equal
      → bytes_eq (row_item schema other).body (row_item schema row).body ≡ true → other ≡ row
  one_row row other row_fits other_fits same body =
      let key = same_key (row_item schema other).key (row_item schema row).key same in
      let value = eq_key (row_item schema other).body (row_item schema row).body body in
      follow.one schema other row valid other_fits row_fits (λ i. record { key = key i; body = value i; rows = 1 })

  equal_news : (row other : Cells) (others : List Cells) (changes : List ItemChange) → is_row schema row ≡ true → is_row_within_limits schema row ≡ true → is_row schema other ≡ true
      → order (row_item schema other).key (row_item schema row).key ≡ Equal → AreNews others changes
      → AreNews (other ∷ others) (if bytes_eq (row_item schema other).body (row_item schema row).body then changes else replaced (row_item schema row) (row_item schema other) ∷ changes)
  equal_news row other others changes row_fits short other_fits same more =
      by (bytes_eq (row_item schema other).body (row_item schema row).body) refl where
        by : (b : Bool) → bytes_eq (row_item schema other).body (row_item schema row).body ≡ b
            → AreNews (other ∷ others) (if b then changes else replaced (row_item schema row) (row_item schema other) ∷ changes)
        by true e = passed other others changes (ap (is_row_within_limits schema) (one_row row other row_fits other_fits same e) ∙ short) more
        by false e = one_more other others (replaced (row_item schema row) (row_item schema other)) changes (is_replaced row other other_fits same) more

  added_news : (others : List Cells) → fit others → AreNews others (all_added (items others))
  added_news [] fits = record { news = []; brought = tt; limits = refl }
  added_news (other ∷ others) fits =
      let both = and_parts (is_row schema other) (list_all (is_row schema) others) fits in
      one_more other others (added (row_item schema other)) (all_added (items others)) (is_added other both.0) (added_news others both.1)

  news_at : (row : Cells) (rest : List Item → List ItemChange) → is_row schema row ≡ true → is_row_within_limits schema row ≡ true
      → ((others : List Cells) → fit others → AreNews others (rest (items others)))
      → (others : List Cells) → fit others → AreNews others (against (row_item schema row) rest (items others))
  news_at row rest row_fits short more [] fits = none_more [] (removed (row_item schema row)) (rest []) refl (more [] fits)
  news_at row rest row_fits short more (other ∷ others) fits =
      let both = and_parts (is_row schema other) (list_all (is_row schema) others) fits in
      elim (order (row_item schema other).key (row_item schema row).key) as (λ o. order (row_item schema other).key (row_item schema row).key ≡ o
      → AreNews (other ∷ others) (match_ordering o (added (row_item schema other) ∷ against (row_item schema row) rest (items others))
      (if bytes_eq (row_item schema other).body (row_item schema row).body then rest (items others) else replaced (row_item schema row) (row_item schema other) ∷ rest (items others))
      (removed (row_item schema row) ∷ rest (items (other ∷ others))))) [
        | Less ↦ λ o. one_more other others (added (row_item schema other)) (against (row_item schema row) rest (items others)) (is_added other both.0)
            (news_at row rest row_fits short more others both.1)
        | Equal ↦ λ o. equal_news row other others (rest (items others)) row_fits short both.0 o (more others both.1)
        | Greater ↦ λ o. none_more (other ∷ others) (removed (row_item schema row)) (rest (items (other ∷ others))) refl (more (other ∷ others) fits)
      ] refl

  pub news_of : (rows others : List Cells) → fit rows → list_all (is_row_within_limits schema) rows ≡ true → fit others → AreNews others (changed (items rows) (items others))
  news_of [] others rows_fit short fits = added_news others fits
  news_of (row ∷ rows) others rows_fit short fits =
      let one = and_parts (is_row schema row) (list_all (is_row schema) rows) rows_fit in
      let two = and_parts (is_row_within_limits schema row) (list_all (is_row_within_limits schema) rows) short in
      news_at row (changed (items rows)) one.0 two.0 (λ others fits. news_of rows others one.1 two.1 fits) others fits
