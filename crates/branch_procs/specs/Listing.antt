-- Lists of the tables of databases that keep the limits on data.
use Rattle.std.specs.Prelude.{◌≡◌, ◌≤◌, ℕ, true, List, length}
use Rattle.std.specs.List.{AllByRecursion, list_all}
use Rattle.schema_model.specs.Limits.{is_named_within_limits}
use Rattle.schema_model.specs.PlainTables as plain
use Rattle.schema_model.specs.PlainTables.{PlainDatabase}
use Rattle.schema_model.specs.WrittenForms.{table_address}
use Rattle.chunk_store.specs.Chunks.{Chunks}
use Rattle.table_root.specs.Standing.{IsTableAt, named_tables}
use Rattle.table_root.specs.declared.records.TableEntry.{TableEntry}

-- this list names tables that stand and keep the limits, however many they are
pub record AreTables (address : List ℕ → List ℕ) (chunks : Chunks) (tables : List TableEntry) (database : PlainDatabase) : Type 0 where
  pub is_database : plain.IsDatabase database
  pub within : list_all is_named_within_limits database ≡ true
  pub stand : AllByRecursion (λ named. IsTableAt address chunks (table_address address named.table) named.table) database
  pub listed : tables ≡ named_tables address database

-- no more of them than a database may have
pub record AreFewTables (address : List ℕ → List ℕ) (chunks : Chunks) (tables : List TableEntry) (database : PlainDatabase) : Type 0 where
  pub tables_are : AreTables address chunks tables database
  pub few : length database ≤ 256
