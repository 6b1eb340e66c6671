-- What a table that is edited asks of the calls below, and that it stands afterwards.
use Rattle.std.proofs.Common.{◌≡◌, ◌<◌, ◌^◌, ℕ, true, List, [], ◌∷◌, length, map, None, Some, refl, sym, ap, subst, ◌∙◌}
use Rattle.std.proofs.lemmas.List.{length-map}
use Rattle.tuple_codec.specs.Edits.{edited}
use Rattle.tuple_codec.specs.Nodes.{Item, Rise}
use Rattle.tuple_codec.specs.Rows.{Cells}
use Rattle.tuple_codec.specs.Trees.{root}
use Rattle.tuple_codec.specs.declared.addresses.Address.{Address}
use Rattle.tuple_codec.specs.declared.edits.Edit.{Edit}
use Rattle.schema_model.specs.PlainTables as plain
use Rattle.schema_model.specs.PlainTables.{PlainTable, conflict_items, is_row, row_item, row_items, violation_items}
use Rattle.schema_model.specs.Schemas.{is_schema}
use Rattle.schema_model.specs.declared.schemas.IndexDef.{IndexDef}
use Rattle.schema_model.specs.declared.schemas.Schema.{Schema}
use Rattle.chunk_store.specs.Chunks.{Chunks, Extends}
use Rattle.chunk_store.specs.Standing.{IsTree}
use Rattle.prolly_tree.proofs.Growing.{tree_later}
use Rattle.tuple_codec.proofs.Rising.{edited_rise}
use Rattle.prolly_edit.specs.Editing.{CanEdit}
use Rattle.table_root.specs.Standing.{IsTableOf, table_of_lists}
use Rattle.table_root.specs.declared.records.StoredTable.{StoredTable}
use Rattle.table_root.specs.Rows.{RowItemsFollow}
use Rattle.index_keep.specs.Entries.{changes_at, keys_of, row_change, row_key}
use Rattle.index_keep.specs.Keeping.{AreIndexes, CanEditTable, CanIndex, table_of_rows, with_rows}
use Rattle.index_keep.specs.Steps.{CanEditIndexes, IsRowsEdit, StandAt}
use Rattle.index_keep.specs.declared.changes.RowChange.{RowChange}
use Rattle.index_keep.proofs.ChangeLemmas.{changes_come, rows_change, rows_come}
use Rattle.index_keep.proofs.StandLemmas.{indexes_in, keys_rise, puts_rows, short_in, as_address, stand_at, stand_roots, stand_trees}

-- the table of these roots, where its lists of conflicts and violations stay
abbrev table_with : (List ℕ → List ℕ) → PlainTable → Address → List Address → StoredTable
table_with address contents k roots = record {
  schema = contents.schema;
  rows = k;
  indexes = roots;
  conflicts = record { 0 = root address (conflict_items contents) };
  violations = record { 0 = root address (violation_items contents) };
}

pub stand_later : (address : List ℕ → List ℕ) (old new : Chunks) (more : Extends old new) (schema : Schema) (rows : List Cells) (indexes : List IndexDef) (roots : List Address)
    → StandAt address old schema rows indexes roots → StandAt address new schema rows indexes roots
stand_later address old new more schema rows [] [] all = tt
stand_later address old new more schema rows [] (k ∷ roots) all = absurd all
stand_later address old new more schema rows (index ∷ indexes) [] all = absurd all
stand_later address old new more schema rows (index ∷ indexes) (k ∷ roots) all =
    (tree_later address old new more k.0 (plain.index_items (table_of_rows schema rows) index) all.0, stand_later address old new more schema rows indexes roots all.1)

none_at : (address : List ℕ → List ℕ) (chunks : Chunks) (schema : Schema) (rows : List Cells) (indexes : List IndexDef) → StandAt address chunks schema rows indexes []
    → (P : List IndexDef → Type 0) → P [] → P indexes
none_at address chunks schema rows [] all P here = here
none_at address chunks schema rows (index ∷ indexes) all P here = absurd all

module _ (address : List ℕ → List ℕ) (chunks : Chunks) (table : StoredTable) (edits : List Edit) (contents : PlainTable) (rows : List Cells) (can : CanEditTable address chunks table edits contents rows) where
  pub schema_is : table.schema ≡ contents.schema
  schema_is = ap (λ (t : StoredTable). t.schema) can.stands.value

  pub is_schema_of : is_schema table.schema ≡ true
  is_schema_of = subst (λ (s : Schema). is_schema s ≡ true) (sym schema_is) can.rows_of.valid

  pub rows_edit : IsRowsEdit address chunks table.rows.0 table.schema edits contents.rows rows
  rows_edit = subst (λ (t : StoredTable). IsRowsEdit address chunks t.rows.0 t.schema edits contents.rows rows) (sym can.stands.value)
      (record { tree = can.stands.trees.rows; fit = can.stands.is_table.rows; rise = can.rise; items = can.items; others_fit = can.rows_of.fit })

  pub rows_can : CanEdit address chunks table.rows.0 edits (row_items contents)
  rows_can = subst (λ (t : StoredTable). CanEdit address chunks t.rows.0 edits (row_items contents)) (sym can.stands.value) (record {
    tree = can.stands.trees.rows;
    are_edits = record { each = puts_rows contents.schema (row_items contents) edits rows can.rows_of.limits can.items; rise = can.rise };
    few = subst (λ (l : List Item). length l < 2 ^ 63) can.items (subst (λ (n : ℕ). n < 2 ^ 63) (sym (length-map rows (row_item contents.schema))) can.rows_of.few);
  })

  others_rise : Rise (map (row_item contents.schema) rows)
  others_rise = subst (λ (l : List Item). Rise l) (sym can.items) (edited_rise (row_items contents) None edits can.stands.trees.rows.are_rows.rise can.rise)

  pub indexes_can : RowItemsFollow → (later : Chunks) → Extends chunks later → (changes : List RowChange) → changes ≡ changes_at table.schema contents.rows rows (keys_of edits)
      → CanEditIndexes address later table.schema table.schema.indexes table.indexes changes contents.rows rows (keys_of edits)
  indexes_can follow later more changes are =
      subst (λ (t : StoredTable). changes ≡ changes_at t.schema contents.rows rows (keys_of edits) → CanEditIndexes address later t.schema t.schema.indexes t.indexes changes contents.rows rows (keys_of edits))
      (sym can.stands.value)
      (λ are_changes. record {
        stand = stand_later address chunks later more contents.schema contents.rows contents.schema.indexes (table_of_lists address contents).indexes
            (stand_at address contents.schema contents.rows chunks contents.schema.indexes can.stands.trees.indexes);
        indexes_in = indexes_in contents.schema can.rows_of.valid;
        short = short_in contents.schema rows can.rows_of.limits;
        others_of = can.rows_of;
        changed = rows_change follow contents.schema contents.rows rows edits can.stands.is_table.rows can.stands.trees.rows.are_rows.rise can.rise can.items others_rise can.rows_of.valid can.rows_of.fit;
        changes_are = are_changes;
      })
      are

  pub table_after : RowItemsFollow → (last : Chunks) → Extends chunks last → (k : Address) → IsTree address last k.0 (edited (row_items contents) edits)
      → (roots : List Address) → StandAt address last table.schema rows table.schema.indexes roots
      → IsTableOf address last (record { schema = table.schema; rows = k; indexes = roots; conflicts = table.conflicts; violations = table.violations }) (with_rows contents rows)
  table_after follow last more k tree roots stand =
      subst (λ (t : StoredTable). StandAt address last t.schema rows t.schema.indexes roots
      → IsTableOf address last (record { schema = t.schema; rows = k; indexes = roots; conflicts = t.conflicts; violations = t.violations }) (with_rows contents rows)) (sym can.stands.value)
      (λ all.
      let items = row_items (with_rows contents rows) in
      let at : IsTree address last k.0 items = subst (λ (l : List Item). IsTree address last k.0 l) (sym can.items) tree in
      let here : IsTree address last (root address items) items = subst (λ (l : List ℕ). IsTree address last l items) (sym at.named) at in
      let is : k ≡ record { 0 = root address items } = ap (λ (l : List ℕ). as_address l) (sym at.named) in
      let are = stand_roots address contents.schema rows last contents.schema.indexes roots all in
      record {
        is_table = record {
          schema = can.rows_of.valid;
          rows = can.rows_of.fit;
          keys = keys_rise follow contents.schema can.rows_of.valid None rows can.rows_of.fit others_rise;
          conflicts = can.stands.is_table.conflicts;
          conflict_keys = can.stands.is_table.conflict_keys;
          violations = can.stands.is_table.violations;
          violation_keys = can.stands.is_table.violation_keys;
        };
        trees = record {
          rows = here;
          indexes = stand_trees address contents.schema rows last contents.schema.indexes roots all;
          conflicts = tree_later address chunks last more (root address (conflict_items contents)) (conflict_items contents) can.stands.trees.conflicts;
          violations = tree_later address chunks last more (root address (violation_items contents)) (violation_items contents) can.stands.trees.violations;
        };
        value = ap (λ (x : Address). table_with address contents x roots) is ∙ ap (λ (l : List Address). table_with address contents (record { 0 = root address items }) l) are;
      })
      stand

  -- a table without lists of indexes has no index, so none stands whatever the rows are
  pub none_stand : RowItemsFollow → (later last : Chunks) → Extends chunks later → table.indexes ≡ [] → StandAt address last table.schema rows table.schema.indexes []
  none_stand follow later last more none =
      let all = indexes_can follow later more (changes_at table.schema contents.rows rows (keys_of edits)) refl in
      none_at address later table.schema contents.rows table.schema.indexes (subst (λ (l : List Address). StandAt address later table.schema contents.rows table.schema.indexes l) none all.stand)
      (λ (l : List IndexDef). StandAt address last table.schema rows l []) tt

-- ---- indexes made anew

module _ (address : List ℕ → List ℕ) (chunks : Chunks) (k : List ℕ) (schema : Schema) (rows : List Cells) (can : CanIndex address chunks k schema rows) where
  pub indexes_new : (later : Chunks) (roots : List Address) → StandAt address later schema [] schema.indexes roots → (changes : List RowChange)
      → changes ≡ map (λ row. row_change None (Some row)) rows → CanEditIndexes address later schema schema.indexes roots changes [] rows (map (row_key schema) rows)
  indexes_new later roots stand changes are = record {
    stand = stand;
    indexes_in = indexes_in schema can.rows_of.valid;
    short = short_in schema rows can.rows_of.limits;
    others_of = can.rows_of;
    changed = rows_come schema rows can.rows_of.valid can.rows_of.fit can.tree.are_rows.rise;
    changes_are = are ∙ changes_come schema rows can.tree.are_rows.rise;
  }

  pub indexes_after : (last : Chunks) (roots : List Address) → StandAt address last schema rows schema.indexes roots → AreIndexes address last (table_of_rows schema rows) roots
  indexes_after last roots stand = record {
    roots_are = stand_roots address schema rows last schema.indexes roots stand;
    stand = stand_trees address schema rows last schema.indexes roots stand;
  }
