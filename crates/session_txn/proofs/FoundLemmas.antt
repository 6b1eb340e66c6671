-- A table that is found, and what is put in its place.
use Rattle.std.proofs.Common.{◌≡◌, refl, ℕ, true, List, Option, Some, None, Ok}
use Rattle.chunk_store.specs.Chunks.{Chunks, Extends}
use Rattle.schema_model.specs.Limits.{is_database_within_limits}
use Rattle.schema_model.specs.PlainTables.{PlainDatabase, PlainTable}
use Rattle.sql_write.specs.Finding.{Finds, IsFound}
use Rattle.sql_write.specs.Putting.{MayReplace}
use Rattle.sql_write.specs.declared.finding.Found.{Found}
use Rattle.sql_write.proofs.TableLemmas.{kept_listed, listed_later}
use Rattle.table_root.specs.Standing.{IsTableOf, TablesStand}
use Rattle.table_root.specs.declared.records.StoredTable.{StoredTable}
use Rattle.plain_writes.specs.WriteLaws.{IsKept}
use Rattle.plain_writes.proofs.DatabaseLemmas.{found_kept, replaced_kept}
use Rattle.plain_writes.specs.Writes.{replaced}
use Rattle.system_tables.specs.declared.entries.Listed.{Listed}
use Rattle.session_txn.specs.Deleting.{without_entries}
use Rattle.session_txn.proofs.DropLemmas.{limits_left, schema_limits}

pub found_of : (address : List ℕ → List ℕ) (chunks : Chunks) (k name : List ℕ) (database : PlainDatabase) (found : Found) (there : Option PlainTable)
    → Finds address chunks k name database (Ok found) there → (contents : PlainTable) × (there ≡ Some contents) × IsFound address chunks k name database contents found
found_of address chunks k name database found (Some contents) is = (contents, refl, is)
found_of address chunks k name database found None is = absurd is

-- the table without some entries may come in its place
pub may_replace : (address : List ℕ → List ℕ) (old mid : Chunks) (k name : List ℕ) (database : PlainDatabase) (contents : PlainTable) (found : Found) → Extends old mid → TablesStand
    → IsFound address old k name database contents found → (which : Listed) (keys : List (List ℕ)) (made : StoredTable) → IsTableOf address mid made (without_entries which keys contents)
    → MayReplace address mid found.tables.items made database (without_entries which keys contents)
may_replace address old mid k name database contents found more laws is which keys made stands =
    let listed = kept_listed address old k database found.tables.items is.kept is.listed in
    let kept = is.kept in
    let at = kept.stands in
    let all : IsKept database = record { is_database = at.is_database; within = kept.within } in
    let whole = found_kept name database contents all is.named in
    record {
      listed = listed_later address old mid more laws found.tables.items database listed.listed;
      stands = stands;
      limits = schema_limits which keys contents whole.within;
    }

-- and the database keeps the limits then
pub kept_again : (address : List ℕ → List ℕ) (old mid : Chunks) (k name : List ℕ) (database : PlainDatabase) (contents : PlainTable) (found : Found) → IsFound address old k name database contents found
    → (which : Listed) (keys : List (List ℕ)) (made : StoredTable) → IsTableOf address mid made (without_entries which keys contents)
    → is_database_within_limits (replaced name (without_entries which keys contents) database) ≡ true
kept_again address old mid k name database contents found is which keys made stands =
    let kept = is.kept in
    let at = kept.stands in
    let all : IsKept database = record { is_database = at.is_database; within = kept.within } in
    let whole = found_kept name database contents all is.named in
    let again = replaced_kept name (without_entries which keys contents) database (record { is_table = stands.is_table; within = limits_left which keys contents whole.within }) all in
    again.within
