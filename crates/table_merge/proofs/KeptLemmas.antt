-- Tables of one schema that keep the limits, and what they come to where they are merged by what theirs changed.
use Rattle.std.proofs.Common.{◌≡◌, ◌≤◌, ◌<◌, ◌+◌, ◌^◌, ◌&&◌, ℕ, zero, suc, Bool, true, false, nat_le, List, [], ◌∷◌, map, length, get_or, Option, Some, None, Ok, Err, refl, sym, ap, ◌∙◌, subst, arith}
use Rattle.std.specs.Prelude.{slice_get}
use Rattle.std.specs.List.{list_all}
use Rattle.std.specs.Option.{option_map_or}
use Rattle.std.specs.Ordering.{match_ordering}
use Rattle.std.specs.declared.cmp.Ordering.{Ordering}
use Rattle.std.specs.declared.cmp.Ordering.TheVariants.{Less, Equal, Greater}
use Rattle.std.proofs.lemmas.Bool.{and_parts, and_from, leb-true}
use Rattle.std.proofs.lemmas.List.{length-map}
use Rattle.tuple_codec.specs.Nodes.{Item}
use Rattle.tuple_codec.specs.Rows.{Cells, key_cmp}
use Rattle.tuple_codec.specs.declared.values.Value.{Value}
use Rattle.tuple_codec.specs.declared.values.Value.TheVariants as cell
use Rattle.node_format.specs.Views.{leaf_of}
use Rattle.chunk_store.specs.Chunks.{Chunks}
use Rattle.chunk_store.specs.Standing.{IsTree}
use Rattle.schema_model.specs.Limits.{is_conflict_within_limits, is_row_within_limits, is_short_in, is_short_key, is_short_row, is_table_within_limits, is_violation_within_limits, is_within_limits, most_rows}
use Rattle.schema_model.specs.PlainTables.{IsTable, PlainTable, conflict_items, is_row, primary_key, row_item, row_items}
use Rattle.schema_model.specs.Sameness.{SamenessIsEquality}
use Rattle.schema_model.specs.Schemas.{is_schema}
use Rattle.schema_model.specs.declared.schemas.Column.{Column}
use Rattle.schema_model.specs.declared.schemas.Schema.{Schema}
use Rattle.schema_model.proofs.FitLemmas.{row_length}
use Rattle.schema_merge.specs.Projecting.{cell_or_default, projected, projected_cell}
use Rattle.prolly_edit.specs.Editing.{CanEdit}
use Rattle.schema_merge.specs.KeyByKey.{before, gathered, key_among, keys_with}
use Rattle.schema_merge.specs.TableMerge.{Three, keys_of, row_after, rows_on, rows_on_or_none, table_of}
use Rattle.table_root.specs.declared.records.StoredTable.{StoredTable}
use Rattle.table_merge.specs.Merging.{AreKeptSides, IsFaultOf, IsMergedTable, IsSide, IsSidePerhaps, PassesTableLimit, PlainSides, fault_of_stop, is_short_merged, merged_contents}
use Rattle.table_merge.specs.Skipping.{AreKeptRows, AreMerged, AreThreeKept, CanSkip, HaveSchema, Merges}
use Rattle.table_merge.specs.Steps.{AreTreeRows, HasItemTrees, wanted_schema}
use Rattle.table_merge.specs.Walking.{are_short}
use Rattle.table_merge.specs.declared.changing.Merged.{Merged}
use Rattle.table_merge.specs.declared.faults.Stop.{Stop}
use Rattle.table_merge.specs.declared.faults.Stop.TheVariants as stop
use Rattle.table_merge.proofs.ItemLemmas.{conflict_items_stand}
use Rattle.table_merge.proofs.KeepLemmas.{kept_stands, limits_few, limits_of, lists_stop, passes}
use Rattle.table_merge.proofs.NameLemmas.{get_place, named_apart}
use Rattle.table_merge.proofs.RiseLemmas.{rise_of}
use Rattle.table_merge.proofs.SchemaLemmas.{form_of}
use Rattle.table_merge.proofs.SideLemmas.{Known, known, side_rows, side_schema, side_within, three_of}
use Rattle.table_merge.proofs.SkipLemmas.{three_kept}

-- ---- a row stays on its own schema

map_is : (f : Column → Value) (columns : List Column) (row : Cells) → length row ≡ length columns → ((i : ℕ) (c : Column) → slice_get columns i ≡ Some c → f c ≡ get_or row i cell.Null) → map f columns ≡ row
map_is f [] [] e h = refl
map_is f [] (value ∷ row) e h = absurd (cc)
map_is f (c ∷ columns) [] e h = absurd (cc)
map_is f (c ∷ columns) (value ∷ row) e h =
    let here : f c ≡ value = h 0 c refl in
    let rest = map_is f columns row (omega (arith, e)) (λ i d g. h (suc i) d g) in
    ap (λ (v : Value). v ∷ map f columns) here ∙ ap (λ (l : Cells). value ∷ l) rest

row_stays : (s : Schema) (row : Cells) → named_apart s.columns ≡ true → is_row s row ≡ true → projected s s row ≡ row
row_stays s row apart is = map_is (projected_cell s row) s.columns row (row_length s row is) (λ i c e. ap (cell_or_default row c.default) (get_place s.columns i c apart e))

rows_stay : (s : Schema) (rows : List Cells) → named_apart s.columns ≡ true → list_all (is_row s) rows ≡ true → map (projected s s) rows ≡ rows
rows_stay s [] apart h = refl
rows_stay s (row ∷ rows) apart h =
    let one = and_parts (is_row s row) (list_all (is_row s) rows) h in
    ap (λ (r : Cells). r ∷ map (projected s s) rows) (row_stays s row apart one.0) ∙ ap (λ (l : List Cells). row ∷ l) (rows_stay s rows apart one.1)

-- ---- rows of a table that keeps the limits

pub short_rows : (s : Schema) (rows : List Cells) → list_all (is_row_within_limits s) rows ≡ true → list_all (is_short_merged s) rows ≡ true
short_rows s [] h = refl
short_rows s (row ∷ rows) h =
    let one = and_parts (is_row_within_limits s row) (list_all (is_row_within_limits s) rows) h in
    let body = and_parts (is_short_key (primary_key s row) && list_all (is_short_in row) s.indexes) (is_short_row s row) one.0 in
    let key = and_parts (is_short_key (primary_key s row)) (list_all (is_short_in row) s.indexes) body.0 in
    and_from _ _ (and_from _ _ key.0 body.1) (short_rows s rows one.1)

table_kept : (contents : PlainTable) → IsTable contents → is_table_within_limits contents ≡ true → AreKeptRows contents.schema contents.rows
table_kept contents is limits =
    let s = contents.schema in
    let four = and_parts (is_within_limits s && nat_le (length contents.rows) most_rows && list_all (is_row_within_limits s) contents.rows && list_all (is_conflict_within_limits s) contents.conflicts)
    (list_all (is_violation_within_limits s) contents.violations) limits in
    let three = and_parts (is_within_limits s && nat_le (length contents.rows) most_rows && list_all (is_row_within_limits s) contents.rows) (list_all (is_conflict_within_limits s) contents.conflicts) four.0 in
    let two = and_parts (is_within_limits s && nat_le (length contents.rows) most_rows) (list_all (is_row_within_limits s) contents.rows) three.0 in
    let one = and_parts (is_within_limits s) (nat_le (length contents.rows) most_rows) two.0 in
    record { fit = is.rows; rise = rise_of (primary_key s) contents.rows is.keys; few = one.1; short = short_rows s contents.rows two.1 }

-- rows that stand on the schema, and keep the limits
pub record StandKept (address : List ℕ → List ℕ) (chunks : Chunks) (table : StoredTable) (schema : Schema) (rows : List Cells) : Type 0 where
  pub kept : AreKeptRows schema rows
  pub tree : IsTree address chunks table.rows.0 (map (row_item schema) rows)

module _ (address : List ℕ → List ℕ) (chunks : Chunks) (schema : Schema) where
  side_stands : (table : StoredTable) (contents : PlainTable) → IsSide address chunks table contents → is_table_within_limits contents ≡ true → table.schema ≡ schema
      → StandKept address chunks table schema (rows_on schema contents)
  side_stands table contents side limits has =
      let is = side.stands.is_table in
      let own : contents.schema ≡ schema = sym (side_schema address chunks table contents side) ∙ has in
      let at = side_rows address chunks table contents side in
      let form = form_of contents.schema is.schema in
      let same : contents.rows ≡ rows_on schema contents =
      sym (rows_stay contents.schema contents.rows form.apart is.rows) ∙ ap (λ (s : Schema). map (projected contents.schema s) contents.rows) own in
      subst (StandKept address chunks table schema) same (record {
        kept = subst (λ (s : Schema). AreKeptRows s contents.rows) own (table_kept contents is limits);
        tree = subst (λ (s : Schema). IsTree address chunks table.rows.0 (map (row_item s) contents.rows)) has at.tree;
      })

  base_stands : (table : StoredTable) (contents : Option PlainTable) → IsSidePerhaps address chunks (Some table) contents → option_map_or is_table_within_limits contents true ≡ true → table.schema ≡ schema
      → StandKept address chunks table schema (rows_on_or_none schema contents)
  base_stands table None side limits has = absurd side
  base_stands table (Some contents) side limits has = side_stands table contents side limits has

  pub within : (base ours theirs : StoredTable) (contents : PlainSides) → AreKeptSides address chunks (Some base) ours theirs contents → HaveSchema schema base ours theirs → is_within_limits schema ≡ true
  within base ours theirs contents are have =
      let sides = are.sides in
      ap is_within_limits (sym have.ours_has) ∙ side_within address chunks ours contents.ours sides.our_side

  pub can_skip : (base ours theirs : StoredTable) (contents : PlainSides) → AreKeptSides address chunks (Some base) ours theirs contents → HaveSchema schema base ours theirs → is_schema schema ≡ true
      → CanSkip address chunks base.rows.0 ours.rows.0 theirs.rows.0 schema (three_of schema contents)
  can_skip base ours theirs contents are have valid =
      let sides = are.sides in
      let b = base_stands base contents.base sides.base_side are.base_kept have.base_has in
      let o = side_stands ours contents.ours sides.our_side are.ours_kept have.ours_has in
      let t = side_stands theirs contents.theirs sides.their_side are.theirs_kept have.theirs_has in
      record {
        kept = record { valid = valid; base = b.kept; ours = o.kept; theirs = t.kept };
        base_tree = b.tree;
        our_tree = o.tree;
        their_tree = t.tree;
      }

-- ---- how many rows are merged

among_few : (key : Cells) (keys : List Cells) → ((others : List Cells) → length (keys_with key_cmp keys others) ≤ length keys + length others) → (others : List Cells)
    → length (key_among key_cmp key (keys_with key_cmp keys) others) ≤ suc (length keys) + length others
among_few key keys go [] = let more = go [] in omega (arith, more)
among_few key keys go (other ∷ others) = by (key_cmp other key) (among_few key keys go others) (go others) (go (other ∷ others)) where
  by : (o : Ordering) → length (key_among key_cmp key (keys_with key_cmp keys) others) ≤ suc (length keys) + length others → length (keys_with key_cmp keys others) ≤ length keys + length others
      → length (keys_with key_cmp keys (other ∷ others)) ≤ length keys + suc (length others)
      → length (match_ordering o (other ∷ key_among key_cmp key (keys_with key_cmp keys) others) (key ∷ keys_with key_cmp keys others) (key ∷ keys_with key_cmp keys (other ∷ others)))
      ≤ suc (length keys) + suc (length others)
  by Less a b c = omega (arith, a)
  by Equal a b c = omega (arith, b)
  by Greater a b c = omega (arith, c)

with_few : (keys others : List Cells) → length (keys_with key_cmp keys others) ≤ length keys + length others
with_few [] others = omega arith
with_few (key ∷ keys) others = among_few key keys (with_few keys) others

gathered_few : {A : Type 0} (find : Cells → Option A) (keys : List Cells) → length (gathered find keys) ≤ length keys
gathered_few find [] = omega arith
gathered_few {A} find (key ∷ keys) = by (find key) (gathered_few find keys) where
  by : (o : Option A) → length (gathered find keys) ≤ length keys → length (before o (gathered find keys)) ≤ suc (length keys)
  by None h = omega (arith, h)
  by (Some x) h = omega (arith, h)

pub few_merged : (s : Schema) (three : Three) → AreThreeKept s three → length (table_of s three).rows < 2 ^ 63
few_merged s three kept =
    let b = leb-true (length three.base) most_rows kept.base.few in
    let o = leb-true (length three.ours) most_rows kept.ours.few in
    let t = leb-true (length three.theirs) most_rows kept.theirs.few in
    let keys = λ (rows : List Cells). length-map rows (primary_key s) in
    let kb = keys three.base in
    let ko = keys three.ours in
    let kt = keys three.theirs in
    let one = gathered_few (row_after s three) (keys_of s three) in
    let two = with_few (map (primary_key s) three.base) (keys_with key_cmp (map (primary_key s) three.ours) (map (primary_key s) three.theirs)) in
    let last = with_few (map (primary_key s) three.ours) (map (primary_key s) three.theirs) in
    omega (arith, b, o, t, kb, ko, kt, one, two, last)

-- ---- the merged table

module _ (schema : Schema) (contents : PlainSides) (k : Known schema contents) where
  abbrev merged : PlainTable
  merged = table_of schema (three_of schema contents)

  -- as many rows as items
  items_many : (items : List Item) → items ≡ row_items merged → length items ≡ length merged.rows
  items_many items e = ap length e ∙ length-map merged.rows (row_item schema)

  pub is_merged : (address : List ℕ → List ℕ) (chunks : Chunks) (table : StoredTable) (rows conflicts : List Item) → rows ≡ row_items merged → conflicts ≡ conflict_items merged
      → is_within_limits schema ≡ true → nat_le (length rows) most_rows ≡ true → are_short merged ≡ true → HasItemTrees address chunks table schema rows conflicts
      → IsMergedTable address chunks table (merged_contents contents)
  is_merged address chunks table rows conflicts r c within few short kept = record {
    contents = merged;
    is = k.is;
    stands = kept_stands address chunks table merged rows conflicts k.is_table refl r c kept;
    limits = limits_of (is_within_limits schema) (nat_le (length merged.rows) most_rows) (list_all (is_short_merged schema) merged.rows) (list_all (is_conflict_within_limits schema) merged.conflicts)
        within (ap (λ (n : ℕ). nat_le n most_rows) (sym (items_many rows r)) ∙ few) short;
  }

  pub passes_many : (rows : List Item) → rows ≡ row_items merged → nat_le (length rows) most_rows ≡ false → PassesTableLimit (merged_contents contents)
  passes_many rows r many = record {
    contents = merged;
    is = k.is;
    limits = ap (λ (b : Bool). is_within_limits schema && b && list_all (is_short_merged schema) merged.rows && list_all (is_conflict_within_limits schema) merged.conflicts)
        (ap (λ (n : ℕ). nat_le n most_rows) (sym (items_many rows r)) ∙ many)
        ∙ limits_few (is_within_limits schema) (list_all (is_short_merged schema) merged.rows) (list_all (is_conflict_within_limits schema) merged.conflicts);
  }

  pub merged_fault : (cause : Stop) → AreMerged (Err cause) schema (three_of schema contents) → IsFaultOf (merged_contents contents) (fault_of_stop cause)
  merged_fault stop.Memory h = tt
  merged_fault stop.Limit h = passes schema contents k (lists_stop schema contents k stop.Limit h)

-- ---- what was decided may be kept

pub can_edit : (address : List ℕ → List ℕ) (chunks : Chunks) (base ours theirs : List ℕ) (schema : Schema) (three : Three) → CanSkip address chunks base ours theirs schema three
    → (merged : Merged) → Merges schema three merged → CanEdit address chunks ours merged.edits.items (map (row_item schema) three.ours)
can_edit address chunks base ours theirs schema three can merged is = record {
  tree = can.our_tree;
  are_edits = is.edits;
  few = subst (λ (n : ℕ). n < 2 ^ 63) (sym (ap length is.rows ∙ length-map (table_of schema three).rows (row_item schema))) (few_merged schema three can.kept);
}

pub conflicts_stand : (schema : Schema) (three : Three) → AreThreeKept schema three → (merged : Merged) → Merges schema three merged → AreTreeRows (map leaf_of merged.conflicts.items)
conflicts_stand schema three kept merged is =
    let both = and_parts (list_all (is_short_merged schema) (table_of schema three).rows) (list_all (is_conflict_within_limits schema) (table_of schema three).conflicts) is.short in
    subst AreTreeRows (sym is.conflicts) (conflict_items_stand schema three kept.valid (three_kept schema three kept) both.1)

-- ---- what is known of tables of one schema that merge to it

pub record Ready (address : List ℕ → List ℕ) (chunks : Chunks) (base ours theirs : StoredTable) (schema : Schema) (contents : PlainSides) : Type 0 where
  pub known_is : Known schema contents
  pub can : CanSkip address chunks base.rows.0 ours.rows.0 theirs.rows.0 schema (three_of schema contents)
  pub limits : is_within_limits schema ≡ true

pub ready : (address : List ℕ → List ℕ) (chunks : Chunks) (base ours theirs : StoredTable) (schema : Schema) → SamenessIsEquality → wanted_schema (Some base) ours theirs ≡ Ok schema
    → HaveSchema schema base ours theirs → (contents : PlainSides) → AreKeptSides address chunks (Some base) ours theirs contents → Ready address chunks base ours theirs schema contents
ready address chunks base ours theirs schema same wanted have contents are =
    let k = known address chunks (Some base) ours theirs contents are.sides same schema wanted in
    let table = k.is_table in
    record { known_is = k; can = can_skip address chunks schema base ours theirs contents are have table.schema; limits = within address chunks schema base ours theirs contents are have }

abbrev pub our_rows : Schema → PlainSides → List Item
our_rows schema contents = map (row_item schema) (three_of schema contents).ours
