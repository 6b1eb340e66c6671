-- A table more in a database.
use Rattle.std.specs.Prelude.{◌≡◌, ℕ, false, List}
use Rattle.schema_model.specs.PlainTables.{PlainDatabase}
use Rattle.schema_model.specs.declared.schemas.Schema.{Schema}
use Rattle.chunk_store.specs.Chunks.{Chunks}
use Rattle.table_root.specs.declared.records.TableEntry.{TableEntry}
use Rattle.plain_schemas.specs.Effects.{is_there, with_table}
use Rattle.plain_writes.specs.WriteLaws.{IsKept}
use Rattle.sql_write.specs.Putting.{AreListed}

-- no table has this name, and with an empty table under it the database keeps the limits
pub record CanAdd (address : List ℕ → List ℕ) (chunks : Chunks) (tables : List TableEntry) (name : List ℕ) (schema : Schema) (database : PlainDatabase) : Type 0 where
  pub listed : AreListed address chunks tables database
  pub absent : is_there database name ≡ false
  pub kept : IsKept (with_table database name schema)
