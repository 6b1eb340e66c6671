-- An index's list follows the rows of its table.
use Rattle.std.specs.Prelude.{◌≡◌, true, List, length, map, None}
use Rattle.std.specs.List.{list_all}
use Rattle.tuple_codec.specs.Edits.{EditsRiseAfter, edited}
use Rattle.tuple_codec.specs.Nodes.{Rise}
use Rattle.tuple_codec.specs.Rows.{Cells}
use Rattle.tuple_codec.specs.declared.edits.Edit.{Edit}
use Rattle.schema_model.specs.PlainTables.{index_items, is_row, row_item}
use Rattle.schema_model.specs.Schemas.{is_index, is_schema}
use Rattle.schema_model.specs.declared.schemas.IndexDef.{IndexDef}
use Rattle.schema_model.specs.declared.schemas.Schema.{Schema}
use Rattle.index_keep.specs.Entries.{AreSorted, changes_at, edits_of_changes, keys_of}
use Rattle.index_keep.specs.Keeping.{table_of_rows}

-- rows of a schema by rising key, and edits by rising key, after which their items are those of the other rows
pub record AreEditedRows (schema : Schema) (rows others : List Cells) (edits : List Edit) : Type 0 where
  pub valid : is_schema schema ≡ true
  pub rows_fit : list_all (is_row schema) rows ≡ true
  pub rows_rise : Rise (map (row_item schema) rows)
  pub rise : EditsRiseAfter None edits
  pub items : map (row_item schema) others ≡ edited (map (row_item schema) rows) edits
  pub others_fit : list_all (is_row schema) others ≡ true

-- these edits are, sorted by key, what an index's entries owe to what becomes of the rows under the edits' keys
abbrev pub AreIndexEdits : Schema → IndexDef → List Cells → List Cells → List Edit → List Edit → Type 0
AreIndexEdits schema index rows others edits index_edits = AreSorted (edits_of_changes schema index (changes_at schema rows others (keys_of edits))) index_edits

-- the edits of an index come by rising key, and the list of the old rows after them is that of the others
pub record IndexListsFollow : Type 0 where
  pub rising : (schema : Schema) (index : IndexDef) (rows others : List Cells) (edits index_edits : List Edit) → is_index (length schema.columns) index ≡ true
      → AreEditedRows schema rows others edits → AreIndexEdits schema index rows others edits index_edits → EditsRiseAfter None index_edits
  pub list : (schema : Schema) (index : IndexDef) (rows others : List Cells) (edits index_edits : List Edit) → is_index (length schema.columns) index ≡ true
      → AreEditedRows schema rows others edits → AreIndexEdits schema index rows others edits index_edits
      → edited (index_items (table_of_rows schema rows) index) index_edits ≡ index_items (table_of_rows schema others) index
