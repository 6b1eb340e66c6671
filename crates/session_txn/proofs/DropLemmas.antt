-- A table without some of its violations stands, and keeps the limits.
use Rattle.std.proofs.Common.{◌≡◌, refl, sym, ap, ◌∙◌, subst, ℕ, Bool, true, false, cond, not, List, [], ◌∷◌, None, filter, map}
use Rattle.std.specs.List.{list_all}
use Rattle.std.proofs.lemmas.Bool.{and_from, and_parts}
use Rattle.tuple_codec.proofs.Lists.{all_left}
use Rattle.chunk_store.specs.Chunks.{Chunks, Extends}
use Rattle.chunk_store.specs.Standing.{IsTree}
use Rattle.conflict_tables.specs.Conflicts as conflicts
use Rattle.conflict_tables.specs.Conflicts.{is_dropped, removals}
use Rattle.conflict_tables.proofs.DropLemmas.{edited_drops, left_rise}
use Rattle.schema_model.specs.Limits.{is_conflict_within_limits, is_table_within_limits, is_violation_within_limits, is_within_limits}
use Rattle.schema_model.specs.PlainTables.{IsTable, PlainTable, Violation, is_violation, violation_cmp, violation_item, violation_items}
use Rattle.schema_model.specs.declared.schemas.Schema.{Schema}
use Rattle.plain_writes.proofs.RowOrderLemmas.{violation_total}
use Rattle.system_tables.specs.declared.entries.Listed.{Listed}
use Rattle.system_tables.specs.declared.entries.Listed.TheVariants as listed
use Rattle.table_root.specs.Standing.{IsTableOf, TableValuesStand}
use Rattle.table_root.specs.declared.records.StoredTable.{StoredTable}
use Rattle.tuple_codec.specs.Edits.{edited}
use Rattle.tuple_codec.specs.Nodes.{Item}
use Rattle.tuple_codec.specs.declared.addresses.Address.{Address}
use Rattle.session_txn.specs.Deleting.{stays, without_entries, without_violations}
use Rattle.root_merge.proofs.KeptLemmas.{schema_within as within_schema}

module _ (keys : List (List ℕ)) where
  abbrev is_left : Item → Bool
  is_left item = not (is_dropped keys item)

  left_items : (schema : Schema) (violations : List Violation) → filter is_left (map (violation_item schema) violations) ≡ map (violation_item schema) (filter (stays keys) violations)
  left_items schema [] = refl
  left_items schema (violation ∷ violations) = by_test (stays keys violation) (left_items schema violations)
    where
      by_test : (b : Bool) → filter is_left (map (violation_item schema) violations) ≡ map (violation_item schema) (filter (stays keys) violations)
          → cond b (violation_item schema violation ∷ filter is_left (map (violation_item schema) violations)) (filter is_left (map (violation_item schema) violations))
          ≡ map (violation_item schema) (cond b (violation ∷ filter (stays keys) violations) (filter (stays keys) violations))
      by_test true e = ap (λ l. violation_item schema violation ∷ l) e
      by_test false e = e

is_table_without : (keys : List (List ℕ)) (table : PlainTable) → IsTable table → IsTable (without_violations keys table)
is_table_without keys table is = record {
  schema = is.schema;
  rows = is.rows;
  keys = is.keys;
  conflicts = is.conflicts;
  conflict_keys = is.conflict_keys;
  violations = all_left (stays keys) (is_violation table.schema) table.violations is.violations;
  violation_keys = left_rise violation_cmp violation_total (stays keys) table.violations is.violation_keys;
}

-- the tree of a table's violations
pub own_tree : (address : List ℕ → List ℕ) (chunks : Chunks) (table : StoredTable) (contents : PlainTable) → IsTableOf address chunks table contents → IsTree address chunks table.violations.0 (violation_items contents)
own_tree address chunks table contents stands = subst (λ (k : List ℕ). IsTree address chunks k (violation_items contents)) (sym (ap (λ (t : StoredTable). t.violations.0) stands.value)) stands.trees.violations

-- a table's value with the root of what is left of its violations
pub without_stands : (keys : List (List ℕ)) (address : List ℕ → List ℕ) (old new : Chunks) → Extends old new → TableValuesStand → (table : StoredTable) (contents : PlainTable) (k : Address) → IsTableOf address old table contents
    → IsTree address new k.0 (edited (violation_items contents) (removals keys (violation_items contents)))
    → IsTableOf address new (record { schema = table.schema; rows = table.rows; indexes = table.indexes; conflicts = table.conflicts; violations = k }) (without_violations keys contents)
without_stands keys address old new more values table contents k was tree =
    let stands = values.later address old new contents table more was in
    let violations = stands.trees.violations in
    let left = edited_drops keys None (violation_items contents) violations.are_rows.rise ∙ left_items keys contents.schema contents.violations in
    let at = subst (λ (l : List Item). IsTree address new k.0 l) left tree in
    record {
      is_table = is_table_without keys contents stands.is_table;
      trees = record {
        rows = stands.trees.rows;
        indexes = stands.trees.indexes;
        conflicts = stands.trees.conflicts;
        violations = subst (λ (r : List ℕ). IsTree address new r (violation_items (without_violations keys contents))) (sym at.named) at;
      };
      value = λ i. record {
        schema = (stands.value i).schema;
        rows = (stands.value i).rows;
        indexes = (stands.value i).indexes;
        conflicts = (stands.value i).conflicts;
        violations = record { 0 = sym at.named i };
      };
    }

-- it keeps the limits that the table kept
pub limits_left : (which : Listed) (keys : List (List ℕ)) (table : PlainTable) → is_table_within_limits table ≡ true → is_table_within_limits (without_entries which keys table) ≡ true
limits_left listed.Conflicts keys table h =
    let a = and_parts _ (list_all (is_violation_within_limits table.schema) table.violations) h in
    let b = and_parts _ (list_all (is_conflict_within_limits table.schema) table.conflicts) a.0 in
    and_from _ _ (and_from _ _ b.0 (all_left (conflicts.stays keys) (is_conflict_within_limits table.schema) table.conflicts b.1)) a.1
limits_left listed.Violations keys table h =
    let a = and_parts _ (list_all (is_violation_within_limits table.schema) table.violations) h in
    and_from _ _ a.0 (all_left (stays keys) (is_violation_within_limits table.schema) table.violations a.1)

pub schema_limits : (which : Listed) (keys : List (List ℕ)) (table : PlainTable) → is_table_within_limits table ≡ true → is_within_limits (without_entries which keys table).schema ≡ true
schema_limits listed.Conflicts keys table h = within_schema table h
schema_limits listed.Violations keys table h = within_schema table h
