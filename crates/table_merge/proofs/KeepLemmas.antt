-- A table that was kept stands for the merged one.
use Rattle.std.proofs.Common.{◌≡◌, ◌<◌, ◌^◌, ◌&&◌, ℕ, true, false, Bool, nat_le, List, [], length, map, Result, Ok, Err, refl, sym, ap, ◌∙◌, subst}
use Rattle.std.specs.List.{list_all}
use Rattle.std.proofs.lemmas.Bool.{and_parts, and_from}
use Rattle.std.proofs.lemmas.List.{length-map}
use Rattle.tuple_codec.specs.Nodes.{Item}
use Rattle.tuple_codec.specs.Trees.{AreRows, root}
use Rattle.chunk_store.specs.Chunks.{Chunks}
use Rattle.chunk_store.specs.Standing.{IsTree}
use Rattle.schema_model.specs.Limits.{is_conflict_within_limits, is_within_limits, most_rows}
use Rattle.schema_model.specs.PlainTables as plain
use Rattle.schema_model.specs.PlainTables.{IsTable, PlainTable, conflict_items, row_item, row_items}
use Rattle.schema_model.specs.declared.schemas.Schema.{Schema}
use Rattle.schema_merge.specs.TableMerge.{table_of}
use Rattle.node_format.specs.Views.{leaf_of}
use Rattle.node_format.specs.declared.items.LeafItem.{LeafItem}
use Rattle.table_root.specs.Standing.{IsUnindexedOf}
use Rattle.table_root.specs.declared.records.StoredTable.{StoredTable}
use Rattle.table_merge.specs.Merging.{IsMergedTable, PassesTableLimit, PlainSides, is_short_merged, keeps_limits, merged_contents}
use Rattle.table_merge.specs.Steps.{AreFew, AreListsWithin, AreTreeRows, HasItemTrees}
use Rattle.table_merge.specs.Walking.{AreListsOf, are_short}
use Rattle.table_merge.specs.declared.faults.Stop.{Stop}
use Rattle.table_merge.specs.declared.faults.Stop.TheVariants as stop
use Rattle.table_merge.specs.declared.walking.Lists.{Lists}
use Rattle.table_merge.proofs.ItemLemmas.{conflict_items_stand, row_items_stand}
use Rattle.table_merge.proofs.SideLemmas.{Known, three_of}

-- ---- trees

pub tree_rows : (seen own : List LeafItem) → seen ≡ own → AreTreeRows (map leaf_of own) → length seen < 2 ^ 63 → AreRows (map leaf_of seen)
tree_rows seen own e are few =
    let of : AreTreeRows (map leaf_of seen) = subst (λ (l : List LeafItem). AreTreeRows (map leaf_of l)) (sym e) are in
    record { each = of.each; rise = of.rise; few = subst (λ (n : ℕ). n < 2 ^ 63) (sym (length-map seen leaf_of)) few }

own_tree : (address : List ℕ → List ℕ) (chunks : Chunks) (k : List ℕ) (items : List Item) → IsTree address chunks k items → IsTree address chunks (root address items) items
own_tree address chunks k items tree = subst (λ (at : List ℕ). IsTree address chunks at items) (sym tree.named) tree

pub kept_stands : (address : List ℕ → List ℕ) (chunks : Chunks) (table : StoredTable) (contents : PlainTable) (rows conflicts : List Item) → IsTable contents → contents.violations ≡ []
    → rows ≡ row_items contents → conflicts ≡ conflict_items contents → HasItemTrees address chunks table contents.schema rows conflicts → IsUnindexedOf address chunks table contents
kept_stands address chunks table contents rows conflicts is none r c kept =
    let rows_tree = subst (IsTree address chunks table.rows.0) r kept.rows_stand in
    let conflicts_tree = subst (IsTree address chunks table.conflicts.0) c kept.conflicts_stand in
    let none_tree = subst (IsTree address chunks table.violations.0) (sym (ap (map (λ violation. plain.violation_item contents.schema violation)) none)) kept.none_stand in
    record {
      is_table = is;
      trees = record {
        rows = own_tree address chunks table.rows.0 (row_items contents) rows_tree;
        conflicts = own_tree address chunks table.conflicts.0 (conflict_items contents) conflicts_tree;
        violations = own_tree address chunks table.violations.0 (plain.violation_items contents) none_tree;
      };
      value = λ i. record {
        schema = kept.schema_is i;
        rows = record { 0 = sym rows_tree.named i };
        indexes = kept.indexes_are i;
        conflicts = record { 0 = sym conflicts_tree.named i };
        violations = record { 0 = sym none_tree.named i };
      };
    }

-- ---- limits

-- the limits are those on the schema, on how many rows there are, and on rows and conflicts
pub limits_of : (within few rows conflicts : Bool) → within ≡ true → few ≡ true → rows && conflicts ≡ true → (within && few && rows && conflicts) ≡ true
limits_of within few true true w f s = and_from _ _ (and_from _ _ (and_from _ _ w f) refl) refl
limits_of within few true false w f s = absurd (cc)
limits_of within few false conflicts w f s = absurd (cc)

limits_short : (within few rows conflicts : Bool) → rows && conflicts ≡ false → (within && few && rows && conflicts) ≡ false
limits_short false few rows conflicts s = refl
limits_short true false rows conflicts s = refl
limits_short true true rows conflicts s = s

pub limits_few : (within rows conflicts : Bool) → (within && false && rows && conflicts) ≡ false
limits_few true rows conflicts = refl
limits_few false rows conflicts = refl

module _ (schema : Schema) (contents : PlainSides) (known : Known schema contents) where
  abbrev merged : PlainTable
  merged = table_of schema (three_of schema contents)

  short_of : keeps_limits merged ≡ true → are_short merged ≡ true
  short_of keeps =
      let one = and_parts (is_within_limits schema && nat_le (length merged.rows) most_rows && list_all (is_short_merged schema) merged.rows) (list_all (is_conflict_within_limits schema) merged.conflicts) keeps in
      let two = and_parts (is_within_limits schema && nat_le (length merged.rows) most_rows) (list_all (is_short_merged schema) merged.rows) one.0 in
      and_from _ _ two.1 one.1

  pub rows_can : (rows : List LeafItem) → map leaf_of rows ≡ row_items merged → keeps_limits merged ≡ true → AreTreeRows (map leaf_of rows)
  rows_can rows r keeps =
      let is = known.is_table in
      subst AreTreeRows (sym r) (row_items_stand schema (three_of schema contents) is.schema known.three
      (and_parts (list_all (is_short_merged schema) merged.rows) (list_all (is_conflict_within_limits schema) merged.conflicts) (short_of keeps)).0)

  pub conflicts_can : (conflicts : List LeafItem) → map leaf_of conflicts ≡ conflict_items merged → keeps_limits merged ≡ true → AreTreeRows (map leaf_of conflicts)
  conflicts_can conflicts c keeps =
      let is = known.is_table in
      subst AreTreeRows (sym c) (conflict_items_stand schema (three_of schema contents) is.schema known.three
      (and_parts (list_all (is_short_merged schema) merged.rows) (list_all (is_conflict_within_limits schema) merged.conflicts) (short_of keeps)).1)

  -- as many rows as items
  rows_many : (rows : List LeafItem) → map leaf_of rows ≡ row_items merged → length rows ≡ length merged.rows
  rows_many rows e = sym (length-map rows leaf_of) ∙ ap length e ∙ length-map merged.rows (row_item schema)

  pub is_merged : (address : List ℕ → List ℕ) (chunks : Chunks) (table : StoredTable) (rows conflicts : List LeafItem)
      → map leaf_of rows ≡ row_items merged → map leaf_of conflicts ≡ conflict_items merged → keeps_limits merged ≡ true
      → HasItemTrees address chunks table schema (map leaf_of rows) (map leaf_of conflicts) → IsMergedTable address chunks table (merged_contents contents)
  is_merged address chunks table rows conflicts r c keeps kept = record {
    contents = merged;
    is = known.is;
    stands = kept_stands address chunks table merged (map leaf_of rows) (map leaf_of conflicts) known.is_table refl r c kept;
    limits = keeps;
  }

  pub passes : keeps_limits merged ≡ false → PassesTableLimit (merged_contents contents)
  passes e = record { contents = merged; is = known.is; limits = e }

  pub passes_schema : is_within_limits schema ≡ false → keeps_limits merged ≡ false
  passes_schema e = ap (λ (b : Bool). b && nat_le (length merged.rows) most_rows && list_all (is_short_merged schema) merged.rows && list_all (is_conflict_within_limits schema) merged.conflicts) e

  passes_rows : (rows : List LeafItem) → map leaf_of rows ≡ row_items merged → nat_le (length rows) most_rows ≡ false → keeps_limits merged ≡ false
  passes_rows rows r e =
      ap (λ (b : Bool). is_within_limits schema && b && list_all (is_short_merged schema) merged.rows && list_all (is_conflict_within_limits schema) merged.conflicts)
      (ap (λ (n : ℕ). nat_le n most_rows) (sym (rows_many rows r)) ∙ e)
      ∙ limits_few (is_within_limits schema) (list_all (is_short_merged schema) merged.rows) (list_all (is_conflict_within_limits schema) merged.conflicts)

  keeps_all : (rows : List LeafItem) → map leaf_of rows ≡ row_items merged → is_within_limits schema ≡ true → nat_le (length rows) most_rows ≡ true → are_short merged ≡ true → keeps_limits merged ≡ true
  keeps_all rows r within few short =
      limits_of (is_within_limits schema) (nat_le (length merged.rows) most_rows) (list_all (is_short_merged schema) merged.rows) (list_all (is_conflict_within_limits schema) merged.conflicts)
      within (ap (λ (n : ℕ). nat_le n most_rows) (sym (rows_many rows r)) ∙ few) short

  pub lists_few : (lists : Lists) (result : Result Lists Stop) → is_within_limits schema ≡ true → AreListsOf (Ok lists) merged → AreFew result lists → AreListsWithin result merged
  lists_few lists (Ok same) within are few =
      (ap (λ (l : Lists). map leaf_of l.rows.items) few.0 ∙ are.0, ap (λ (l : Lists). map leaf_of l.conflicts.items) few.0 ∙ are.1, keeps_all lists.rows.items are.0 within few.1 are.2)
  lists_few lists (Err stop.Memory) within are few = absurd few
  lists_few lists (Err stop.Limit) within are few = passes_rows lists.rows.items are.0 few

  pub lists_stop : (cause : Stop) → AreListsOf (Err cause) merged → AreListsWithin (Err cause) merged
  lists_stop stop.Memory h = tt
  lists_stop stop.Limit h =
      limits_short (is_within_limits schema) (nat_le (length merged.rows) most_rows) (list_all (is_short_merged schema) merged.rows) (list_all (is_conflict_within_limits schema) merged.conflicts) h
