-- The rows that changes bring are those that the old list hasn't just so.
use Rattle.std.proofs.Common.{◌≡◌, ◌<◌, ◌+◌, refl, sym, ap, ◌∙◌, subst, ℕ, Bool, true, false, cond, ◌&&◌, ◌||◌, not, List, [], ◌∷◌, filter, map, bytes_eq, length, drop, slice_index_or, Option, Some, None}
use Rattle.std.proofs.lemmas.List.{drop_more}
use Rattle.std.specs.List.{list_all, list_any}
use Rattle.std.specs.Option.{option_map_or}
use Rattle.std.specs.Ordering.{is_lt, match_ordering}
use Rattle.std.specs.declared.cmp.Ordering.{Ordering}
use Rattle.std.specs.declared.cmp.Ordering.TheVariants.{Less, Equal, Greater}
use Rattle.std.proofs.lemmas.Bool.{and_parts, or_left}
use Rattle.tuple_codec.proofs.ByteLemmas.{same_bytes as eq_key, bytes_itself as itself}
use Rattle.tuple_codec.proofs.Orderings.{less_is}
use Rattle.tuple_codec.proofs.Truths.{alike_truths as as_one}
use Rattle.tuple_codec.specs.Edits.{against, added, all_added, changed, order, removed, replaced}
use Rattle.tuple_codec.specs.Nodes.{Item, Rise, RiseAfter, leaf_item}
use Rattle.tuple_codec.specs.Rows.{Cells, same_cells}
use Rattle.tuple_codec.specs.declared.edits.ItemChange.{ItemChange}
use Rattle.tuple_codec.proofs.Orders.{cells_told}
use Rattle.schema_model.specs.PlainTables.{is_row, row_item}
use Rattle.schema_model.specs.Schemas.{is_schema}
use Rattle.schema_model.specs.declared.schemas.Schema.{Schema}
use Rattle.prolly_tree.specs.Lists.{pair_of}
use Rattle.tuple_codec.proofs.KeyOrders.{same_key, turned, unlike, apart as unlike_back}
use Rattle.tuple_codec.proofs.Rising.{rows_lower}
use Rattle.table_root.specs.Rows.{RowItemsFollow}
use Rattle.plain_writes.proofs.RowOrderLemmas.{both_so, left_so, neither_so, right_so}
use Rattle.constraint_scan.specs.Pairs.{come_of, come_pairs, row_pairs}

abbrev is_same_item : Item → Item → Bool
is_same_item item other = bytes_eq other.key item.key && bytes_eq other.body item.body

abbrev is_new_item : List Item → Item → Bool
is_new_item items item = not (list_any (is_same_item item) items)

-- none of the items behind it is the same
absent : (item : Item) (items : List Item) → RiseAfter (Some item.key) items → list_any (is_same_item item) items ≡ false
absent item [] rise = refl
absent item (other ∷ items) rise =
    neither_so (ap (λ b. b && bytes_eq other.body item.body) (unlike_back item.key other.key (less_is (order item.key other.key) rise.0)))
    (absent item items (rows_lower (Some item.key) other.key items rise.0 rise.1))

-- an item before all of a list takes no part
skip_first : (first : Item) (items others : List Item) → RiseAfter (Some first.key) others → filter (is_new_item (first ∷ items)) others ≡ filter (is_new_item items) others
skip_first first items [] rise = refl
skip_first first items (other ∷ others) rise =
    λ i. cond (not ((unlike first.key other.key (less_is (order first.key other.key) rise.0) i && bytes_eq first.body other.body) || list_any (is_same_item other) items))
    (other ∷ skip_first first items others (rows_lower (Some first.key) other.key others rise.0 rise.1) i)
    (skip_first first items others (rows_lower (Some first.key) other.key others rise.0 rise.1) i)

all_come : (others : List Item) → come_pairs (all_added others) ≡ map pair_of (filter (is_new_item []) others)
all_come [] = refl
all_come (other ∷ others) = ap (λ l. pair_of other ∷ l) (all_come others)

abbrev behind : Item → List Item → List Item → List Item
behind first items others = filter (is_new_item (first ∷ items)) others

against_come : (first : Item) (items : List Item)
    → ((others : List Item) (before : Option (List ℕ)) → RiseAfter before items → RiseAfter before others → come_pairs (changed items others) ≡ map pair_of (filter (is_new_item items) others))
    → (others : List Item) (before : Option (List ℕ)) → RiseAfter before (first ∷ items) → RiseAfter before others
    → come_pairs (against first (changed items) others) ≡ map pair_of (filter (is_new_item (first ∷ items)) others)
against_come first items go [] before rise up = go [] (Some first.key) rise.1 tt
against_come first items go (other ∷ others) before rise up = by (order other.key first.key) refl (λ below. against_come first items go others (Some other.key) (below, rise.1) up.1)
  where
    stays : is_new_item (first ∷ items) other ≡ true → map pair_of (cond (is_new_item (first ∷ items) other) (other ∷ (behind first items others)) (behind first items others)) ≡ pair_of other ∷ map pair_of (behind first items others)
    stays e = ap (λ b. map pair_of (cond b (other ∷ (behind first items others)) (behind first items others))) e

    goes : is_new_item (first ∷ items) other ≡ false → map pair_of (cond (is_new_item (first ∷ items) other) (other ∷ (behind first items others)) (behind first items others)) ≡ map pair_of (behind first items others)
    goes e = ap (λ b. map pair_of (cond b (other ∷ (behind first items others)) (behind first items others))) e

    by_body : (b : Bool) → bytes_eq other.body first.body ≡ b → other.key ≡ first.key → come_pairs (cond b (changed items others) (replaced first other ∷ changed items others))
        ≡ map pair_of (cond (is_new_item (first ∷ items) other) (other ∷ (behind first items others)) (behind first items others))
    by_body true e same =
        let is = both_so (ap (λ k. bytes_eq k other.key) (sym same) ∙ itself other.key) (ap (λ k. bytes_eq k other.body) (sym (eq_key other.body first.body e)) ∙ itself other.body) in
        let up_from = subst (λ k. RiseAfter (Some k) others) same up.1 in
        go others (Some first.key) rise.1 up_from ∙ ap (map pair_of) (sym (skip_first first items others up_from))
        ∙ sym (goes (ap not (or_left (is_same_item other first) (list_any (is_same_item other) items) is)))
    by_body false e same =
        let up_from = subst (λ k. RiseAfter (Some k) others) same up.1 in
        let apart = as_one (bytes_eq first.body other.body) (bytes_eq other.body first.body)
        (λ t. ap (λ k. bytes_eq k first.body) (sym (eq_key first.body other.body t)) ∙ itself first.body) (λ t. ap (λ k. bytes_eq k other.body) (sym (eq_key other.body first.body t)) ∙ itself other.body) ∙ e in
        let none = neither_so (and_second (bytes_eq first.key other.key) apart) (absent other items (subst (λ k. RiseAfter (Some k) items) (sym same) rise.1)) in
        ap (λ k. (k, other.body) ∷ come_pairs (changed items others)) (sym same)
        ∙ ap (λ l. pair_of other ∷ l) (go others (Some first.key) rise.1 up_from ∙ ap (map pair_of) (sym (skip_first first items others up_from)))
        ∙ sym (stays (ap not none))
      where
        and_second : (a : Bool) {b : Bool} → b ≡ false → (a && b) ≡ false
        and_second true e = e
        and_second false e = refl

    by : (o : Ordering) → order other.key first.key ≡ o
        → (is_lt (order other.key first.key) ≡ true → come_pairs (against first (changed items) others) ≡ map pair_of (behind first items others))
        → come_pairs (match_ordering o (added other ∷ against first (changed items) others) (cond (bytes_eq other.body first.body) (changed items others) (replaced first other ∷ changed items others))
        (removed first ∷ changed items (other ∷ others))) ≡ map pair_of (cond (is_new_item (first ∷ items) other) (other ∷ (behind first items others)) (behind first items others))
    by Less e more = ap (λ l. pair_of other ∷ l) (more (ap is_lt e)) ∙ sym (stays (ap not (absent other (first ∷ items) (ap is_lt e, rise.1))))
    by Equal e more = by_body (bytes_eq other.body first.body) refl (same_key other.key first.key e)
    by Greater e more =
        let after = ap is_lt (turned other.key first.key e) in
        go (other ∷ others) (Some first.key) rise.1 (after, up.1) ∙ ap (map pair_of) (sym (skip_first first items (other ∷ others) (after, up.1)))

items_come : (items others : List Item) (before : Option (List ℕ)) → RiseAfter before items → RiseAfter before others → come_pairs (changed items others) ≡ map pair_of (filter (is_new_item items) others)
items_come [] others before rise up = all_come others
items_come (first ∷ items) others before rise up = against_come first items (items_come items) others before rise up

-- ---- as rows

module _ (follow : RowItemsFollow) (schema : Schema) (valid : is_schema schema ≡ true) where
  item_same : (row other : Cells) → is_row schema row ≡ true → is_row schema other ≡ true → is_same_item (row_item schema row) (row_item schema other) ≡ same_cells row other
  item_same row other fit fits =
      as_one (is_same_item (row_item schema row) (row_item schema other)) (same_cells row other)
      (λ e. (cells_told row other).1 (follow.one schema row other valid fit fits
      (λ i. leaf_item (sym (eq_key (row_item schema other).key (row_item schema row).key (left_so (bytes_eq (row_item schema other).key (row_item schema row).key) (bytes_eq (row_item schema other).body (row_item schema row).body) e)) i)
      (sym (eq_key (row_item schema other).body (row_item schema row).body (right_so (bytes_eq (row_item schema other).key (row_item schema row).key) (bytes_eq (row_item schema other).body (row_item schema row).body) e)) i))))
      (λ e. subst (λ r. is_same_item (row_item schema row) (row_item schema r) ≡ true) ((cells_told row other).0 e) (both_so (itself (row_item schema row).key) (itself (row_item schema row).body)))

  any_same : (row : Cells) → is_row schema row ≡ true → (rows : List Cells) → list_all (is_row schema) rows ≡ true → list_any (is_same_item (row_item schema row)) (map (row_item schema) rows) ≡ list_any (same_cells row) rows
  any_same row fit [] all = refl
  any_same row fit (other ∷ rows) all =
      let parts = and_parts (is_row schema other) (list_all (is_row schema) rows) all in
      λ i. item_same row other fit parts.0 i || any_same row fit rows parts.1 i

  abbrev new_items : List Cells → List Cells → List Item
  new_items rows others = filter (is_new_item (map (row_item schema) rows)) (map (row_item schema) others)

  rows_new : (rows : List Cells) → list_all (is_row schema) rows ≡ true → (others : List Cells) → list_all (is_row schema) others ≡ true
      → map pair_of (filter (is_new_item (map (row_item schema) rows)) (map (row_item schema) others)) ≡ row_pairs schema (come_of rows others)
  rows_new rows all [] fit = refl
  rows_new rows all (other ∷ others) fit =
      let parts = and_parts (is_row schema other) (list_all (is_row schema) others) fit in
      by_test (list_any (same_cells other) rows) (any_same other parts.0 rows all) (rows_new rows all others parts.1)
    where
      by_test : (b : Bool) → list_any (is_same_item (row_item schema other)) (map (row_item schema) rows) ≡ b → map pair_of (new_items rows others) ≡ row_pairs schema (come_of rows others)
          → map pair_of (cond (not (list_any (is_same_item (row_item schema other)) (map (row_item schema) rows))) (row_item schema other ∷ (new_items rows others)) (new_items rows others))
          ≡ row_pairs schema (cond (not b) (other ∷ come_of rows others) (come_of rows others))
      by_test true e more = ap (λ b. map pair_of (cond (not b) (row_item schema other ∷ (new_items rows others)) (new_items rows others))) e ∙ more
      by_test false e more = ap (λ b. map pair_of (cond (not b) (row_item schema other ∷ (new_items rows others)) (new_items rows others))) e ∙ ap (λ l. pair_of (row_item schema other) ∷ l) more

  pub rows_come : (rows others : List Cells) → list_all (is_row schema) rows ≡ true → list_all (is_row schema) others ≡ true → Rise (map (row_item schema) rows) → Rise (map (row_item schema) others)
      → come_pairs (changed (map (row_item schema) rows) (map (row_item schema) others)) ≡ row_pairs schema (come_of rows others)
  rows_come rows others all fit rise up = items_come (map (row_item schema) rows) (map (row_item schema) others) None rise up ∙ rows_new rows all others fit

-- rows that came are rows
pub come_fit : (p : Cells → Bool) (rows others : List Cells) → list_all p others ≡ true → list_all p (come_of rows others) ≡ true
come_fit p rows [] all = refl
come_fit p rows (other ∷ others) all =
    let parts = and_parts (p other) (list_all p others) all in
    by_test (not (list_any (same_cells other) rows)) parts.0 (come_fit p rows others parts.1)
  where
    by_test : (b : Bool) → p other ≡ true → list_all p (come_of rows others) ≡ true → list_all p (cond b (other ∷ come_of rows others) (come_of rows others)) ≡ true
    by_test true one more = both_so one more
    by_test false one more = more

-- ---- a change and those behind it

pub change_comes : (change : ItemChange) (changes : List ItemChange) (value : List ℕ) → change.new ≡ Some value → come_pairs (change ∷ changes) ≡ (change.key, value) ∷ come_pairs changes
change_comes change changes value e = ap (λ o. option_map_or (λ v. (change.key, v) ∷ come_pairs changes) o (come_pairs changes)) e

pub change_goes : (change : ItemChange) (changes : List ItemChange) → change.new ≡ None → come_pairs (change ∷ changes) ≡ come_pairs changes
change_goes change changes e = ap (λ o. option_map_or (λ v. (change.key, v) ∷ come_pairs changes) o (come_pairs changes)) e

module _ (list : List ItemChange) (place : ℕ) (item : ItemChange) (inside : place < length list) (is : item ≡ slice_index_or list place item) where
  split_at : come_pairs (drop place list) ≡ come_pairs (item ∷ drop (place + 1) list)
  split_at = ap come_pairs (drop_more list place item inside) ∙ ap (λ c. come_pairs (c ∷ drop (place + 1) list)) (sym is)

  pub comes_at : (value key bytes : List ℕ) → item.new ≡ Some value → key ≡ item.key → bytes ≡ value → come_pairs (drop place list) ≡ (key, bytes) ∷ come_pairs (drop (place + 1) list)
  comes_at value key bytes some key_is bytes_are =
      split_at ∙ change_comes item (drop (place + 1) list) value some ∙ (λ i. (sym key_is i, sym bytes_are i) ∷ come_pairs (drop (place + 1) list))

  pub goes_at : item.new ≡ None → come_pairs (drop place list) ≡ come_pairs (drop (place + 1) list)
  goes_at none = split_at ∙ change_goes item (drop (place + 1) list) none
