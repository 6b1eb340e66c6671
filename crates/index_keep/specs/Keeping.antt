-- Tables whose rows are edited, with the lists of their indexes.
use Rattle.std.specs.Prelude.{◌≡◌, ◌<◌, ◌^◌, ℕ, true, List, [], length, map, None}
use Rattle.std.specs.List.{AllByRecursion, list_all}
use Rattle.tuple_codec.specs.Edits.{EditsRiseAfter, edited}
use Rattle.tuple_codec.specs.Rows.{Cells}
use Rattle.tuple_codec.specs.Trees.{root}
use Rattle.tuple_codec.specs.declared.addresses.Address.{Address}
use Rattle.tuple_codec.specs.declared.edits.Edit.{Edit}
use Rattle.schema_model.specs.Limits.{is_row_within_limits}
use Rattle.schema_model.specs.PlainTables.{PlainTable, index_items, is_row, row_item, row_items}
use Rattle.schema_model.specs.Schemas.{is_schema}
use Rattle.schema_model.specs.declared.schemas.Schema.{Schema}
use Rattle.chunk_store.specs.Chunks.{Chunks}
use Rattle.chunk_store.specs.Standing.{IsTree}
use Rattle.table_root.specs.Standing.{IsTableOf}
use Rattle.table_root.specs.declared.records.StoredTable.{StoredTable}

-- rows of a schema, each within the limits, and fewer than 2^63
pub record AreRowsOf (schema : Schema) (rows : List Cells) : Type 0 where
  pub valid : is_schema schema ≡ true
  pub fit : list_all (is_row schema) rows ≡ true
  pub limits : list_all (is_row_within_limits schema) rows ≡ true
  pub few : length rows < 2 ^ 63

-- a table of these rows alone
abbrev pub table_of_rows : Schema → List Cells → PlainTable
table_of_rows schema rows = record { schema = schema; rows = rows; conflicts = []; violations = [] }

-- the same table with these rows
abbrev pub with_rows : PlainTable → List Cells → PlainTable
with_rows table rows = record { schema = table.schema; rows = rows; conflicts = table.conflicts; violations = table.violations }

-- the address stands for the items of these rows, whose indexes may be made
pub record CanIndex (address : List ℕ → List ℕ) (chunks : Chunks) (k : List ℕ) (schema : Schema) (rows : List Cells) : Type 0 where
  pub rows_of : AreRowsOf schema rows
  pub tree : IsTree address chunks k (row_items (table_of_rows schema rows))

-- these are the roots of the lists of the table's indexes, in their order, and their trees are found
pub record AreIndexes (address : List ℕ → List ℕ) (chunks : Chunks) (table : PlainTable) (roots : List Address) : Type 0 where
  pub roots_are : roots ≡ map (λ index. record { 0 = root address (index_items table index) }) table.schema.indexes
  pub stand : AllByRecursion (λ index. IsTree address chunks (root address (index_items table index)) (index_items table index)) table.schema.indexes

-- the table stands, the edits come by rising key, and the items of these rows, which keep the limits, are those of its own after the edits
pub record CanEditTable (address : List ℕ → List ℕ) (chunks : Chunks) (table : StoredTable) (edits : List Edit) (contents : PlainTable) (rows : List Cells) : Type 0 where
  pub stands : IsTableOf address chunks table contents
  pub rise : EditsRiseAfter None edits
  pub items : map (row_item contents.schema) rows ≡ edited (row_items contents) edits
  pub rows_of : AreRowsOf contents.schema rows
