-- The rows of a table after an UPDATE or a DELETE, put in place of its own.
use Rattle.std.specs.Prelude.{◌≡◌, ◌≤◌, ℕ, true, List, length}
use Rattle.std.specs.List.{list_all}
use Rattle.tuple_codec.specs.Rows.{Cells}
use Rattle.schema_model.specs.Limits.{most_rows}
use Rattle.schema_model.specs.PlainTables.{PlainDatabase, PlainTable, rises}
use Rattle.chunk_store.specs.Chunks.{Chunks}
use Rattle.table_root.specs.Standing.{IsTableOf}
use Rattle.table_root.specs.declared.records.StoredTable.{StoredTable}
use Rattle.plain_writes.specs.Writes.{keyed_cmp}
use Rattle.sql_write.specs.Finding.{IsFound}
use Rattle.sql_write.specs.Inserting.{is_good}
use Rattle.sql_write.specs.Weaving.{IsWoven}
use Rattle.sql_write.specs.declared.finding.Found.{Found}
use Rattle.sql_write.specs.declared.turning.Turned.{Turned}

-- a table that was found, and some of its rows
pub record HasSome (address : List ℕ → List ℕ) (chunks : Chunks) (table : StoredTable) (old : List Cells) (contents : PlainTable) : Type 0 where
  pub stands : IsTableOf address chunks table contents
  pub some : length old ≤ length contents.rows
  pub few : length contents.rows ≤ most_rows

-- rows that were turned, in place of others of a table that was found; more stand among them, and stay. All rows are those that the table may
-- have then
pub record MayTurn (address : List ℕ → List ℕ) (chunks : Chunks) (k name : List ℕ) (found : Found) (old : List Cells) (turned : Turned) (database : PlainDatabase) (contents : PlainTable) (rows : List Cells) : Type 0 where
  pub found_is : IsFound address chunks k name database contents found
  pub woven : IsWoven contents.rows rows old turned.rows
  pub good : list_all (is_good contents.schema) rows ≡ true
  pub rise : rises (keyed_cmp contents.schema) rows ≡ true
