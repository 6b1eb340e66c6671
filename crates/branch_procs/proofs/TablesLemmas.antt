-- Lists of the tables of databases that keep the limits on data.
use Rattle.std.proofs.Common.{◌≡◌, ◌≤◌, sym, subst, ℕ, true, nat_le, List, length}
use Rattle.std.specs.List.{list_all}
use Rattle.std.proofs.lemmas.Bool.{le-leb}
use Rattle.schema_model.specs.Limits.{is_database_within_limits, is_named_within_limits, most_tables}
use Rattle.schema_model.specs.PlainTables.{PlainDatabase}
use Rattle.schema_model.proofs.SizeLemmas.{kept_few}
use Rattle.chunk_store.specs.Chunks.{Chunks, Extends}
use Rattle.table_root.specs.Kept.{IsKeptAt}
use Rattle.table_root.specs.Standing.{TablesStand, named_tables}
use Rattle.table_root.specs.declared.records.TableEntry.{TableEntry}
use Rattle.sql_write.proofs.TableLemmas.{stand_later}
use Rattle.plain_writes.proofs.RowOrderLemmas.{both_so, right_so}
use Rattle.branch_procs.specs.Listing.{AreFewTables, AreTables}

pub few_so : (database : PlainDatabase) → length database ≤ 256 → nat_le (length database) most_tables ≡ true
few_so database few = le-leb (length database) most_tables few

pub few_kept : (database : PlainDatabase) → list_all is_named_within_limits database ≡ true → length database ≤ 256 → is_database_within_limits database ≡ true
few_kept database within few = both_so (few_so database few) within

pub tables_kept : (address : List ℕ → List ℕ) (chunks : Chunks) (k : List ℕ) (database : PlainDatabase) (tables : List TableEntry) → IsKeptAt address chunks k database
    → tables ≡ named_tables address database → AreFewTables address chunks tables database
tables_kept address chunks k database tables kept is = record {
  tables_are = record {
    is_database = kept.stands.is_database;
    within = right_so (nat_le (length database) most_tables) (list_all is_named_within_limits database) kept.within;
    stand = kept.stands.tables;
    listed = is;
  };
  few = kept_few database kept.within;
}

pub tables_later : (address : List ℕ → List ℕ) (old new : Chunks) → Extends old new → TablesStand → (tables : List TableEntry) (database : PlainDatabase)
    → AreTables address old tables database → AreTables address new tables database
tables_later address old new more laws tables database are = record {
  is_database = are.is_database;
  within = are.within;
  stand = stand_later address old new more laws database are.stand;
  listed = are.listed;
}

pub few_as : (address : List ℕ → List ℕ) (chunks : Chunks) (tables shown : List TableEntry) (database : PlainDatabase) → shown ≡ tables → AreFewTables address chunks tables database
    → AreFewTables address chunks shown database
few_as address chunks tables shown database is few = subst (λ (l : List TableEntry). AreFewTables address chunks l database) (sym is) few
