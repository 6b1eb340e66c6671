-- A table made of a schema and rows, in place of another in a database.
use Rattle.std.specs.Prelude.{◌≡◌, ℕ, true, List}
use Rattle.tuple_codec.specs.Rows.{Cells}
use Rattle.schema_model.specs.Limits.{is_table_within_limits}
use Rattle.schema_model.specs.PlainTables.{IsTable, PlainDatabase}
use Rattle.schema_model.specs.declared.schemas.Schema.{Schema}
use Rattle.chunk_store.specs.Chunks.{Chunks}
use Rattle.table_root.specs.declared.records.TableEntry.{TableEntry}
use Rattle.index_keep.specs.Keeping.{table_of_rows}
use Rattle.sql_write.specs.Putting.{AreListed}

-- the database stands, and the table keeps the limits
pub record CanRebuild (address : List ℕ → List ℕ) (chunks : Chunks) (tables : List TableEntry) (schema : Schema) (rows : List Cells) (database : PlainDatabase) : Type 0 where
  pub listed : AreListed address chunks tables database
  pub is_table : IsTable (table_of_rows schema rows)
  pub within : is_table_within_limits (table_of_rows schema rows) ≡ true
