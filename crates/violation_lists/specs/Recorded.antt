-- What becomes of a database that records all of its violations.
use Rattle.std.specs.Prelude.{◌≡◌, ℕ, List, map}
use Rattle.std.specs.List.{flat_map}
use Rattle.schema_model.specs.PlainTables.{IsDatabase, NamedTable, PlainDatabase}
use Rattle.chunk_store.specs.Chunks.{Chunks}
use Rattle.plain_writes.specs.CheckTexts.{checks}
use Rattle.plain_writes.specs.Violations.{violations, violations_in}
use Rattle.violation_lists.specs.Recording.{IsRecordable, recorded_as, with_list}
use Rattle.table_root.specs.Kept.{IsKeptAt}
use Rattle.violation_lists.specs.Written.{written_in}

-- a table with all of its violations in the database
abbrev pub with_all : PlainDatabase → NamedTable → NamedTable
with_all database named = record { name = named.name; table = with_list named.table (violations_in checks database named.name named.table.schema named.table.rows) }

-- a database's own violations may be recorded in it, and then each table has all of its own
pub record AllAreRecorded : Type 0 where
  pub recordable : (address : List ℕ → List ℕ) (chunks : Chunks) (k : List ℕ) (database : PlainDatabase) → IsKeptAt address chunks k database
      → IsRecordable database (flat_map (written_in database) (violations checks database)) (violations checks database)
  pub recorded : (database : PlainDatabase) → IsDatabase database → recorded_as (violations checks database) database ≡ map (with_all database) database
