-- An index's entries that begin with the bytes of some cells are those of the rows that have these cells, in the rows' order.
use Rattle.std.proofs.Common.{◌≡◌, ◌∙◌, sym, ap, refl, subst, ℕ, Bool, true, false, cond, ltb, List, [], ◌∷◌, ◌++◌, filter, length, map, drop, zero, suc, slice_get, append_assoc, append-nil, None, Some}
use Rattle.std.specs.List.{AllByRecursion, list_all}
use Rattle.std.specs.Ordering.{is_eq, is_lt, ordering_then}
use Rattle.std.specs.declared.cmp.Ordering.TheVariants.{Less, Equal}
use Rattle.std.proofs.lemmas.Bool.{and_parts}
use Rattle.std.specs.Cmp.{tied_itself}
use Rattle.tuple_codec.specs.KeyBytes.{key_bytes}
use Rattle.tuple_codec.specs.Nodes.{Item, Rise, RiseAfter}
use Rattle.tuple_codec.specs.Rows.{Cells, fits_all, key_cmp, key_of, same_cells}
use Rattle.tuple_codec.specs.Spellings.{KeepsOrder, KeepsOrderBefore}
use Rattle.tuple_codec.proofs.Orders.{cells_told, key_cmp_total}
use Rattle.prolly_tree.specs.Lists.{from_key, pair_of}
use Rattle.prolly_tree.proofs.StandingOrder.{order, rise_any}
use Rattle.schema_model.specs.PlainTables.{index_item, is_row, key_types, placed, primary_key, sorted}
use Rattle.schema_model.specs.Schemas.{are_positions, is_index, is_schema}
use Rattle.schema_model.specs.declared.schemas.IndexDef.{IndexDef}
use Rattle.schema_model.specs.declared.schemas.Schema.{Schema}
use Rattle.schema_model.proofs.FitLemmas.{key_types_fit, primary_key_fits}
use Rattle.plain_writes.specs.Violations.{types_at}
use Rattle.tuple_codec.proofs.FieldLemmas.{key_bytes_joined as bytes_joined}
use Rattle.violation_lists.specs.Seeking.{begins}
use Rattle.violation_lists.proofs.PrefixLemmas.{below_not, past, still}
use Rattle.violation_lists.proofs.SeekLemmas.{begins_joined, cells_fit, types_fit}
use Rattle.sql_select.specs.Entries.{IsUnder, behind, has_cells}
use Rattle.sql_select.specs.Seeking.{row_with}
use Rattle.sql_select.proofs.SpanLemmas.{Rises, next_less, rest_rises}

-- ---- the places of an index's columns

at_place : (test : IndexDef → Bool) (indexes : List IndexDef) (place : ℕ) (index : IndexDef) → list_all test indexes ≡ true → slice_get indexes place ≡ Some index → test index ≡ true
at_place test [] place index all there = absurd (cc)
at_place test (first ∷ indexes) zero index all there = subst (λ i. test i ≡ true) (some_is there) (and_parts (test first) (list_all test indexes) all).0
  where
    some_is : Some first ≡ Some index → first ≡ index
    some_is e = cc
at_place test (first ∷ indexes) (suc place) index all there = at_place test indexes place index (and_parts (test first) (list_all test indexes) all).1 there

pub places_within : (schema : Schema) (place : ℕ) (index : IndexDef) → is_schema schema ≡ true → slice_get schema.indexes place ≡ Some index
    → list_all (λ position. ltb position (length schema.columns)) index.columns ≡ true
places_within schema place index valid there =
    let a = and_parts _ _ valid in
    let b = and_parts _ _ a.0 in
    let c = and_parts _ _ b.0 in
    let d = and_parts _ _ (and_parts _ _ c.1).0 in
    let is = at_place (is_index (length schema.columns)) schema.indexes place index d.1 there in
    (and_parts _ _ (and_parts (_) _ (and_parts _ (are_positions (length schema.columns) index.columns) is).1).0).1

-- ---- each row is found by its primary key

-- the rows behind one are greater
abbrev AreGreater : Schema → Cells → List Cells → Type 0
AreGreater schema row rows = AllByRecursion (λ other. key_cmp (primary_key schema row) (primary_key schema other) ≡ Less) rows

greater_too : (schema : Schema) (row next : Cells) (rows : List Cells) → key_cmp (primary_key schema row) (primary_key schema next) ≡ Less → AreGreater schema next rows → AreGreater schema row rows
greater_too schema row next [] less all = tt
greater_too schema row next (x ∷ rows) less all =
    (key_cmp_total.trans (primary_key schema row) (primary_key schema next) (primary_key schema x) less all.0, greater_too schema row next rows less all.1)

greater_all : (schema : Schema) (row : Cells) (rows : List Cells) → Rises schema (row ∷ rows) → AreGreater schema row rows
greater_all schema row [] rise = tt
greater_all schema row (next ∷ rows) rise =
    let less = next_less schema row next rows rise in
    (less, greater_too schema row next rows less (greater_all schema next rows (rest_rises schema row (next ∷ rows) rise)))

abbrev pub IsFound : Schema → List Cells → Cells → Type 0
IsFound schema rows row = (is_row schema row ≡ true) × (row_with schema (primary_key schema row) rows ≡ Some row)

apart : (a b : Cells) → key_cmp a b ≡ Less → same_cells a b ≡ false
apart a b e = ap is_eq e

found_behind : (schema : Schema) (first : Cells) (rows rest : List Cells) → AreGreater schema first rest → AllByRecursion (IsFound schema rows) rest → AllByRecursion (IsFound schema (first ∷ rows)) rest
found_behind schema first rows [] greater all = tt
found_behind schema first rows (row ∷ rest) greater all = (
  (all.0.0, ap (λ b. cond b (Some first) (row_with schema (primary_key schema row) rows)) (apart (primary_key schema first) (primary_key schema row) greater.0) ∙ all.0.1),
  found_behind schema first rows rest greater.1 all.1,
)

pub all_found : (schema : Schema) (rows : List Cells) → list_all (is_row schema) rows ≡ true → Rises schema rows → AllByRecursion (IsFound schema rows) rows
all_found schema [] fit rise = tt
all_found schema (row ∷ rows) fit rise =
    let parts = and_parts (is_row schema row) (list_all (is_row schema) rows) fit in
    let own : same_cells (primary_key schema row) (primary_key schema row) ≡ true = (cells_told (primary_key schema row) (primary_key schema row)).1 refl in (
      (parts.0, ap (λ b. cond b (Some row) (row_with schema (primary_key schema row) rows)) own),
      found_behind schema row rows rows (greater_all schema row rows rise) (all_found schema rows parts.1 (rest_rises schema row rows rise)),
    )

all_filtered : (P : Cells → Type 0) (test : Cells → Bool) (rows : List Cells) → AllByRecursion P rows → AllByRecursion P (filter test rows)
all_filtered P test [] all = tt
all_filtered P test (row ∷ rows) all = by (test row) (all_filtered P test rows all.1) where
  by : (b : Bool) → AllByRecursion P (filter test rows) → AllByRecursion P (cond b (row ∷ filter test rows) (filter test rows))
  by true more = (all.0, more)
  by false more = more

-- ---- items put at their places

all_placed : (P : Item → Type 0) (item : Item) (items : List Item) → P item → AllByRecursion P items → AllByRecursion P (placed item items)
all_placed P item [] is all = (is, tt)
all_placed P item (other ∷ items) is all = by (is_lt (order item.key other.key)) (all_placed P item items is all.1) where
  by : (b : Bool) → AllByRecursion P (placed item items) → AllByRecursion P (cond b (item ∷ other ∷ items) (other ∷ placed item items))
  by true more = (is, all)
  by false more = (all.0, more)

all_sorted : (P : Item → Type 0) (items : List Item) → AllByRecursion P items → AllByRecursion P (sorted items)
all_sorted P [] all = tt
all_sorted P (item ∷ items) all = all_placed P item (sorted items) all.0 (all_sorted P items all.1)

module _ (test : Item → Bool) where
  placed_out : (item : Item) (items : List Item) → test item ≡ false → filter test (placed item items) ≡ filter test items
  placed_out item [] out = ap (λ b. cond b (item ∷ []) []) out
  placed_out item (other ∷ items) out = by (is_lt (order item.key other.key)) (placed_out item items out) where
    by : (b : Bool) → filter test (placed item items) ≡ filter test items → filter test (cond b (item ∷ other ∷ items) (other ∷ placed item items)) ≡ filter test (other ∷ items)
    by true more = ap (λ b. cond b (item ∷ filter test (other ∷ items)) (filter test (other ∷ items))) out
    by false more = ap (λ l. cond (test other) (other ∷ l) l) more

  -- it comes before each that passes
  placed_first : (item : Item) (items : List Item) → test item ≡ true → AllByRecursion (λ other. test other ≡ true → is_lt (order item.key other.key) ≡ true) items
      → filter test (placed item items) ≡ item ∷ filter test items
  placed_first item [] within all = ap (λ b. cond b (item ∷ []) []) within
  placed_first item (other ∷ items) within all = by (is_lt (order item.key other.key)) refl (test other) refl (placed_first item items within all.1) where
    by : (b : Bool) → is_lt (order item.key other.key) ≡ b → (c : Bool) → test other ≡ c → filter test (placed item items) ≡ item ∷ filter test items
        → filter test (cond b (item ∷ other ∷ items) (other ∷ placed item items)) ≡ item ∷ filter test (other ∷ items)
    by true e c f more = ap (λ b. cond b (item ∷ filter test (other ∷ items)) (filter test (other ∷ items))) within
    by false e true f more = absurd (cc (sym e ∙ all.0 f))
    by false e false f more =
        ap (λ c. cond c (other ∷ filter test (placed item items)) (filter test (placed item items))) f
        ∙ more
        ∙ ap (λ l. item ∷ l) (sym (ap (λ c. cond c (other ∷ filter test items) (filter test items)) f))

-- of the entries that are left those that are sought are these rows'
pub record IsEntering (schema : Schema) (index : IndexDef) (cells : Cells) (rows done : List Cells) (rest : List (List ℕ × List ℕ)) : Type 0 where
  pub left : List Item
  pub coming : List Cells
  pub rise : Rise left
  pub at : AllByRecursion (λ item. is_lt (order item.key (key_bytes cells)) ≡ false) left
  pub follow : rest ≡ map pair_of left
  pub same : filter (λ item. begins (key_bytes cells) item.key) left ≡ map (index_item schema index) coming
  pub whole : done ++ coming ≡ filter (has_cells index.columns cells) rows
  pub found : AllByRecursion (IsFound schema rows) coming

-- what the first entry that is left tells
pub record IsComing (schema : Schema) (index : IndexDef) (cells : Cells) (rows done : List Cells) (rest : List (List ℕ × List ℕ)) (own : List ℕ) : Type 0 where
  pub row : Cells
  pub under : IsUnder schema rows own row
  pub entering : IsEntering schema index cells rows (done ++ row ∷ []) rest

-- ---- the entries that are sought

module _ (whole_order : KeepsOrder) (ordered : KeepsOrderBefore) (schema : Schema) (index : IndexDef) (cells : Cells) (valid : is_schema schema ≡ true) (within : list_all (λ place. ltb place (length schema.columns)) index.columns ≡ true)
    (fits : fits_all (types_at schema index.columns) cells ≡ true) where
  abbrev entry : Cells → Item
  entry row = index_item schema index row

  abbrev is_sought_entry : Item → Bool
  is_sought_entry item = begins (key_bytes cells) item.key

  key_is : (row : Cells) → (entry row).key ≡ key_bytes (key_of index.columns row) ++ key_bytes (primary_key schema row)
  key_is row = bytes_joined (key_of index.columns row) (primary_key schema row)

  begins_is : (row : Cells) → is_row schema row ≡ true → is_sought_entry (entry row) ≡ has_cells index.columns cells row
  begins_is row fit =
      ap (begins (key_bytes cells)) (key_is row)
      ∙ begins_joined (types_at schema index.columns) cells (key_of index.columns row) (key_bytes (primary_key schema row)) (types_fit schema index.columns valid) fits
      (cells_fit schema.columns row index.columns fit within)

  -- of two rows with these cells the one of the lesser key has the lesser entry
  comes_first : (row other : Cells) → is_row schema row ≡ true → is_row schema other ≡ true → key_cmp (primary_key schema row) (primary_key schema other) ≡ Less
      → is_sought_entry (entry row) ≡ true → is_sought_entry (entry other) ≡ true → is_lt (order (entry row).key (entry other).key) ≡ true
  comes_first row other fit other_fit less in_row in_other =
      let mine : cells ≡ key_of index.columns row = (cells_told cells (key_of index.columns row)).0 (sym (begins_is row fit) ∙ in_row) in
      let others : cells ≡ key_of index.columns other = (cells_told cells (key_of index.columns other)).0 (sym (begins_is other other_fit) ∙ in_other) in
      let tied : key_cmp (key_of index.columns row) (key_of index.columns other) ≡ Equal =
      ap (λ c. key_cmp c (key_of index.columns other)) (sym mine ∙ others) ∙ tied_itself key_cmp_total (key_of index.columns other) in
      let keys : order (key_bytes (primary_key schema row)) (key_bytes (primary_key schema other)) ≡ key_cmp (primary_key schema row) (primary_key schema other) =
      whole_order (key_types schema) (primary_key schema row) (primary_key schema other) (key_types_fit schema valid) (primary_key_fits schema row valid fit) (primary_key_fits schema other valid other_fit) in
      ap is_lt ((λ i. order (key_is row i) (key_is other i))
      ∙ ordered (types_at schema index.columns) (key_of index.columns row) (key_of index.columns other) (key_bytes (primary_key schema row)) (key_bytes (primary_key schema other)) (types_fit schema index.columns valid)
      (cells_fit schema.columns row index.columns fit within) (cells_fit schema.columns other index.columns other_fit within)
      ∙ ap (λ o. ordering_then o (order (key_bytes (primary_key schema row)) (key_bytes (primary_key schema other)))) tied ∙ keys ∙ less)

  all_behind_it : (row : Cells) (rows : List Cells) → is_row schema row ≡ true → is_sought_entry (entry row) ≡ true → list_all (is_row schema) rows ≡ true → AreGreater schema row rows
      → AllByRecursion (λ other. is_sought_entry other ≡ true → is_lt (order (entry row).key other.key) ≡ true) (map entry rows)
  all_behind_it row [] fit sought_one all greater = tt
  all_behind_it row (other ∷ rows) fit sought_one all greater =
      let parts = and_parts (is_row schema other) (list_all (is_row schema) rows) all in
      ((λ in_other. comes_first row other fit parts.0 greater.0 sought_one in_other), all_behind_it row rows fit sought_one parts.1 greater.1)

  -- the entries of the rows that have the cells, in their order
  pub entries_are : (rows : List Cells) → list_all (is_row schema) rows ≡ true → Rises schema rows
      → filter is_sought_entry (sorted (map entry rows)) ≡ map entry (filter (has_cells index.columns cells) rows)
  entries_are [] all rise = refl
  entries_are (row ∷ rows) all rise =
      let parts = and_parts (is_row schema row) (list_all (is_row schema) rows) all in
      by (is_sought_entry (entry row)) refl parts.0 (entries_are rows parts.1 (rest_rises schema row rows rise))
      (λ e. all_sorted (λ other. is_sought_entry other ≡ true → is_lt (order (entry row).key other.key) ≡ true) (map entry rows) (all_behind_it row rows parts.0 e parts.1 (greater_all schema row rows rise)))
    where
      by : (b : Bool) → is_sought_entry (entry row) ≡ b → is_row schema row ≡ true → filter is_sought_entry (sorted (map entry rows)) ≡ map entry (filter (has_cells index.columns cells) rows)
          → (is_sought_entry (entry row) ≡ true → AllByRecursion (λ other. is_sought_entry other ≡ true → is_lt (order (entry row).key other.key) ≡ true) (sorted (map entry rows)))
          → filter is_sought_entry (placed (entry row) (sorted (map entry rows))) ≡ map entry (filter (has_cells index.columns cells) (row ∷ rows))
      by true e fit more first =
          placed_first is_sought_entry (entry row) (sorted (map entry rows)) e (first e)
          ∙ ap (λ l. entry row ∷ l) more
          ∙ ap (λ b. map entry (cond b (row ∷ filter (has_cells index.columns cells) rows) (filter (has_cells index.columns cells) rows))) (sym e ∙ begins_is row fit)
      by false e fit more first =
          placed_out is_sought_entry (entry row) (sorted (map entry rows)) e
          ∙ more
          ∙ ap (λ b. map entry (cond b (row ∷ filter (has_cells index.columns cells) rows) (filter (has_cells index.columns cells) rows))) (sym e ∙ begins_is row fit)

  -- ---- the scan

  -- past an entry that isn't below these bytes and doesn't begin with them none does
  none_past : (key : List ℕ) (items : List Item) → RiseAfter (Some key) items → is_lt (order key (key_bytes cells)) ≡ false → begins (key_bytes cells) key ≡ false → filter is_sought_entry items ≡ []
  none_past key [] rise at not_so = refl
  none_past key (item ∷ items) rise at not_so =
      let here = past (key_bytes cells) key item.key at not_so rise.0 in
      ap (λ b. cond b (item ∷ filter is_sought_entry items) (filter is_sought_entry items)) here
      ∙ none_past item.key items rise.1 (still (key_bytes cells) key item.key at rise.0) here

  all_at : (key : List ℕ) (items : List Item) → RiseAfter (Some key) items → is_lt (order key (key_bytes cells)) ≡ false → AllByRecursion (λ item. is_lt (order item.key (key_bytes cells)) ≡ false) items
  all_at key [] rise at = tt
  all_at key (item ∷ items) rise at =
      let here = still (key_bytes cells) key item.key at rise.0 in
      (here, all_at item.key items rise.1 here)

  record IsFrom (items left : List Item) : Type 0 where
    rise : Rise left
    at : AllByRecursion (λ item. is_lt (order item.key (key_bytes cells)) ≡ false) left
    same : filter is_sought_entry left ≡ filter is_sought_entry items

  from_here : (items : List Item) → Rise items → IsFrom items (from_key (key_bytes cells) items)
  from_here [] rise = record { rise = tt; at = tt; same = refl }
  from_here (item ∷ items) rise = by (is_lt (order item.key (key_bytes cells))) refl (from_here items (rise_any (Some item.key) items rise.1)) where
    by : (b : Bool) → is_lt (order item.key (key_bytes cells)) ≡ b → IsFrom items (from_key (key_bytes cells) items) → IsFrom (item ∷ items) (cond b (from_key (key_bytes cells) items) (item ∷ items))
    by true e more = record {
      rise = more.rise;
      at = more.at;
      same = more.same ∙ sym (ap (λ b. cond b (item ∷ filter is_sought_entry items) (filter is_sought_entry items)) (below_not (key_bytes cells) item.key e));
    }
    by false e more = record { rise = rise; at = (e, all_at item.key items rise.1 e); same = refl }

  pub enters : (rows : List Cells) (rest : List (List ℕ × List ℕ)) → list_all (is_row schema) rows ≡ true → Rises schema rows → Rise (sorted (map entry rows))
      → rest ≡ map pair_of (from_key (key_bytes cells) (sorted (map entry rows))) → IsEntering schema index cells rows [] rest
  enters rows rest all rise items_rise e =
      let from = from_here (sorted (map entry rows)) items_rise in
      record {
        left = from_key (key_bytes cells) (sorted (map entry rows));
        coming = filter (has_cells index.columns cells) rows;
        rise = from.rise;
        at = from.at;
        follow = e;
        same = from.same ∙ entries_are rows all rise;
        whole = refl;
        found = all_filtered (IsFound schema rows) (has_cells index.columns cells) rows (all_found schema rows all rise);
      }

  drop_front : (p x : List ℕ) → drop (length p) (p ++ x) ≡ x
  drop_front [] x = refl
  drop_front (b ∷ p) x = drop_front p x

  own_is : (row : Cells) (key own : List ℕ) → is_row schema row ≡ true → key ≡ (entry row).key → begins (key_bytes cells) key ≡ true → drop (length (key_bytes cells)) key ≡ own → key_bytes (primary_key schema row) ≡ own
  own_is row key own fit is so e =
      let same : cells ≡ key_of index.columns row =
      (cells_told cells (key_of index.columns row)).0 (sym (begins_is row fit) ∙ ap (begins (key_bytes cells)) (sym is) ∙ so) in
      sym (drop_front (key_bytes cells) (key_bytes (primary_key schema row)))
      ∙ ap (drop (length (key_bytes cells))) (ap (λ c. key_bytes c ++ key_bytes (primary_key schema row)) same ∙ sym (key_is row) ∙ sym is)
      ∙ e

  one_entered : (rows done : List Cells) (item : Item) (left : List Item) (coming : List Cells) (key : List ℕ) (rest : List (List ℕ × List ℕ)) (own : List ℕ) → key ≡ item.key → rest ≡ map pair_of left → Rise (item ∷ left)
      → AllByRecursion (λ item. is_lt (order item.key (key_bytes cells)) ≡ false) left → begins (key_bytes cells) key ≡ true → drop (length (key_bytes cells)) key ≡ own
      → item ∷ filter is_sought_entry left ≡ map entry coming → done ++ coming ≡ filter (has_cells index.columns cells) rows → AllByRecursion (IsFound schema rows) coming → IsComing schema index cells rows done rest own
  one_entered rows done item left [] key rest own is follow rise at so e same whole found = absurd (cc)
  one_entered rows done item left (row ∷ coming) key rest own is follow rise at so e same whole found =
      let first : item ≡ entry row = cc in
      let others : filter is_sought_entry left ≡ map entry coming = cc in
      record {
        row = row;
        under = record { fits = found.0.0; key = own_is row key own found.0.0 (is ∙ ap (λ (i : Item). i.key) first) so e; found = found.0.1 };
        entering = record {
          left = left;
          coming = coming;
          rise = rise_any (Some item.key) left rise.1;
          at = at;
          follow = follow;
          same = others;
          whole = append_assoc done (row ∷ []) coming ∙ whole;
          found = found.1;
        };
      }

  none_entered : (rows done coming : List Cells) → [] ≡ map entry coming → done ++ coming ≡ filter (has_cells index.columns cells) rows → done ≡ filter (has_cells index.columns cells) rows
  none_entered rows done [] same whole = sym (append-nil done) ∙ whole
  none_entered rows done (row ∷ coming) same whole = absurd (cc)

  entered_of : (rows done : List Cells) (left : List Item) (coming : List Cells) (pair : List ℕ × List ℕ) (rest : List (List ℕ × List ℕ)) → Rise left
      → AllByRecursion (λ item. is_lt (order item.key (key_bytes cells)) ≡ false) left → (pair ∷ rest) ≡ map pair_of left → filter is_sought_entry left ≡ map entry coming
      → done ++ coming ≡ filter (has_cells index.columns cells) rows → AllByRecursion (IsFound schema rows) coming
      → (((own : List ℕ) → Some own ≡ behind (key_bytes cells) pair.0 → IsComing schema index cells rows done rest own) × (None ≡ behind (key_bytes cells) pair.0 → done ≡ filter (has_cells index.columns cells) rows))
  entered_of rows done [] coming pair rest rise at follow same whole found = absurd (cc)
  entered_of rows done (item ∷ left) coming pair rest rise at follow same whole found =
      let one : pair ≡ pair_of item = cc in
      let more : rest ≡ map pair_of left = cc in
      let key : pair.0 ≡ item.key = ap (λ (p : List ℕ × List ℕ). p.0) one in
      by (begins (key_bytes cells) pair.0) refl key more (ap (begins (key_bytes cells)) (sym key))
    where
      some_is : (a b : List ℕ) → Some a ≡ Some b → b ≡ a
      some_is a b e = cc

      by : (b : Bool) → begins (key_bytes cells) pair.0 ≡ b → pair.0 ≡ item.key → rest ≡ map pair_of left → begins (key_bytes cells) item.key ≡ begins (key_bytes cells) pair.0
          → (((own : List ℕ) → Some own ≡ cond b (Some (drop (length (key_bytes cells)) pair.0)) None → IsComing schema index cells rows done rest own)
          × (None ≡ cond b (Some (drop (length (key_bytes cells)) pair.0)) None → done ≡ filter (has_cells index.columns cells) rows))
      by true so key more alike = (
        (λ own e. one_entered rows done item left coming pair.0 rest own key more rise at.1 so (some_is own (drop (length (key_bytes cells)) pair.0) e)
            (sym (ap (λ b. cond b (item ∷ filter is_sought_entry left) (filter is_sought_entry left)) (alike ∙ so)) ∙ same) whole found),
        λ e. absurd (cc),
      )
      by false so key more alike = (
        (λ own e. absurd (cc)),
        λ e.
            let not_so : begins (key_bytes cells) item.key ≡ false = alike ∙ so in
            none_entered rows done coming
            (sym (ap (λ b. cond b (item ∷ filter is_sought_entry left) (filter is_sought_entry left)) not_so ∙ none_past item.key left rise.1 at.0 not_so) ∙ same) whole,
      )

  pub entered : (rows done : List Cells) (all rest : List (List ℕ × List ℕ)) (pair : List ℕ × List ℕ) → IsEntering schema index cells rows done all → all ≡ pair ∷ rest → (own : List ℕ) → Some own ≡ behind (key_bytes cells) pair.0
      → IsComing schema index cells rows done rest own
  entered rows done all rest pair entering e own is =
      (entered_of rows done entering.left entering.coming pair rest entering.rise entering.at (sym e ∙ entering.follow) entering.same entering.whole entering.found).0 own is

  pub left_out : (rows done : List Cells) (all rest : List (List ℕ × List ℕ)) (pair : List ℕ × List ℕ) → IsEntering schema index cells rows done all → all ≡ pair ∷ rest → None ≡ behind (key_bytes cells) pair.0
      → done ≡ filter (has_cells index.columns cells) rows
  left_out rows done all rest pair entering e is =
      (entered_of rows done entering.left entering.coming pair rest entering.rise entering.at (sym e ∙ entering.follow) entering.same entering.whole entering.found).1 is

  all_entered_by : (rows done : List Cells) (left : List Item) (coming : List Cells) → [] ≡ map pair_of left → filter is_sought_entry left ≡ map entry coming → done ++ coming ≡ filter (has_cells index.columns cells) rows
      → done ≡ filter (has_cells index.columns cells) rows
  all_entered_by rows done [] coming follow same whole = none_entered rows done coming same whole
  all_entered_by rows done (item ∷ left) coming follow same whole = absurd (cc)

  pub all_entered : (rows done : List Cells) (all : List (List ℕ × List ℕ)) → IsEntering schema index cells rows done all → all ≡ [] → done ≡ filter (has_cells index.columns cells) rows
  all_entered rows done all entering e = all_entered_by rows done entering.left entering.coming (sym e ∙ entering.follow) entering.same entering.whole
