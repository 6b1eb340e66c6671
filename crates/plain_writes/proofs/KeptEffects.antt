-- INSERT, UPDATE and DELETE keep a database within the limits.
use Rattle.std.proofs.Common.{◌≡◌, refl, ℕ, List, ◌++◌, length, map, Ok, Err}
use Rattle.std.specs.List.{AllByRecursion, count_by}
use Rattle.std.specs.Prelude.{IfOk}
use Rattle.tuple_codec.proofs.Lists.{all_append}
use Rattle.sql_ast.specs.declared.statements.Insert.{Insert}
use Rattle.sql_ast.specs.declared.statements.Update.{Update}
use Rattle.sql_ast.specs.declared.statements.Delete.{Delete}
use Rattle.schema_model.specs.PlainTables.{PlainDatabase, PlainTable}
use Rattle.schema_model.proofs.FitLemmas.{columns_of as columns_well}
use Rattle.expr_eval.specs.Binding.{Outcome, and_then}
use Rattle.plain_sql.specs.Lists.{each, or_refuse}
use Rattle.plain_writes.specs.Violations.{Checks, own_scope, table_in}
use Rattle.plain_writes.specs.Writes.{Effect, bound_assignment, delete_effect, deleted, insert_effect, inserted, new_row, on_table, places_named, rest_of, result_of, stays, tests_of, tuple_said, turned_small, update_effect, updated}
use Rattle.plain_writes.specs.declared.updating.Later.{Later}
use Rattle.plain_writes.specs.WriteLaws.{IsKept, WritesKeep}
use Rattle.plain_writes.proofs.OutcomeLemmas.{each_have, found_so, then_so}
use Rattle.plain_writes.proofs.RowLemmas.{IsPlaced, all_rest, all_rows, assignment_placed, is_good, new_rows_good, stay_all_good, turned_all_good}
use Rattle.plain_writes.proofs.DatabaseLemmas.{IsKeptTable, found_kept, result_kept, rows_good}

-- of a table that is found
kept_on : (database : PlainDatabase) (name : List ℕ) (next : PlainTable → Outcome Effect) (effect : Effect) → IsKept database
    → ((table : PlainTable) → IsKeptTable table → next table ≡ Ok effect → IsKept effect.database) → on_table database name next ≡ Ok effect → IsKept effect.database
kept_on database name next effect kept keeps e =
    let found = then_so (or_refuse 1146 (table_in database name)) next effect e in
    keeps found.0 (found_kept name database found.0 kept (found_so 1146 (table_in database name) found.0 found.1)) found.2

inserts_keep : (checks : Checks) (database : PlainDatabase) (insert : Insert) (effect : Effect) → IsKept database → insert_effect checks database insert ≡ Ok effect → IsKept effect.database
inserts_keep checks database insert effect kept e = kept_on database insert.table (inserted checks database insert) effect kept by_table e
  where
    by_table : (table : PlainTable) → IsKeptTable table → inserted checks database insert table ≡ Ok effect → IsKept effect.database
    by_table table it h =
        let places = then_so (places_named table.schema insert.columns) (λ places.
        and_then (each (tuple_said table.schema places) insert.tuples) (λ said.
        and_then (each (new_row table.schema places) said) (λ rows.
        result_of checks database insert.table table (table.rows ++ rows) (length rows)))) effect h in
        let said = then_so (each (tuple_said table.schema places.0) insert.tuples) (λ said.
        and_then (each (new_row table.schema places.0) said) (λ rows.
        result_of checks database insert.table table (table.rows ++ rows) (length rows))) effect places.2 in
        let rows = then_so (each (new_row table.schema places.0) said.0) (λ rows. result_of checks database insert.table table (table.rows ++ rows) (length rows)) effect said.2 in
        let is = it.is_table in
        result_kept checks database insert.table table (table.rows ++ rows.0) (length rows.0) effect kept it
        (all_append (is_good table.schema) table.rows rows.0 (rows_good table it) (new_rows_good table.schema places.0 said.0 rows.0 (columns_well table.schema is.schema) rows.1)) rows.2

updates_keep : (checks : Checks) (database : PlainDatabase) (update : Update) (effect : Effect) → IsKept database → update_effect checks database update ≡ Ok effect → IsKept effect.database
updates_keep checks database update effect kept e = kept_on database update.table (updated checks database update) effect kept by_table e
  where
    by_table : (table : PlainTable) → IsKeptTable table → updated checks database update table ≡ Ok effect → IsKept effect.database
    by_table table it h =
        let scope = own_scope update.table table.schema in
        let sets = then_so (each (bound_assignment table.schema scope) update.assignments) (λ sets.
        and_then (tests_of scope update.filter) (λ tests.
        and_then (each (turned_small table.schema tests sets) table.rows) (λ rows.
        result_of checks database update.table table (map (λ (one : Later). one.row) rows) (count_by (λ (one : Later). one.is_new) rows)))) effect h in
        let tests = then_so (tests_of scope update.filter) (λ tests.
        and_then (each (turned_small table.schema tests sets.0) table.rows) (λ rows.
        result_of checks database update.table table (map (λ (one : Later). one.row) rows) (count_by (λ (one : Later). one.is_new) rows))) effect sets.2 in
        let rows = then_so (each (turned_small table.schema tests.0 sets.0) table.rows) (λ rows.
        result_of checks database update.table table (map (λ (one : Later). one.row) rows) (count_by (λ (one : Later). one.is_new) rows)) effect tests.2 in
        let placed : AllByRecursion (IsPlaced table.schema) sets.0 = each_have (bound_assignment table.schema scope) (IsPlaced table.schema) (assignment_placed table.schema scope) update.assignments sets.0 sets.1 in
        result_kept checks database update.table table (map (λ (one : Later). one.row) rows.0) (count_by (λ (one : Later). one.is_new) rows.0) effect kept it
        (all_rows table.schema rows.0 (turned_all_good table.schema tests.0 sets.0 table.rows rows.0 placed (rows_good table it) rows.1)) rows.2

deletes_keep : (checks : Checks) (database : PlainDatabase) (delete : Delete) (effect : Effect) → IsKept database → delete_effect checks database delete ≡ Ok effect → IsKept effect.database
deletes_keep checks database delete effect kept e = kept_on database delete.table (deleted checks database delete) effect kept by_table e
  where
    by_table : (table : PlainTable) → IsKeptTable table → deleted checks database delete table ≡ Ok effect → IsKept effect.database
    by_table table it h =
        let tests = then_so (tests_of (own_scope delete.table table.schema) delete.filter) (λ tests.
        and_then (each (stays tests) table.rows) (λ rows.
        result_of checks database delete.table table (rest_of rows) (count_by (λ (one : Later). one.is_new) rows))) effect h in
        let rows = then_so (each (stays tests.0) table.rows) (λ rows. result_of checks database delete.table table (rest_of rows) (count_by (λ (one : Later). one.is_new) rows)) effect tests.2 in
        result_kept checks database delete.table table (rest_of rows.0) (count_by (λ (one : Later). one.is_new) rows.0) effect kept it
        (all_rest table.schema rows.0 (stay_all_good table.schema tests.0 table.rows rows.0 (rows_good table it) rows.1)) rows.2

if_ok : (P : PlainDatabase → Type 0) (o : Outcome Effect) → ((effect : Effect) → o ≡ Ok effect → P effect.database) → IfOk o (λ (effect : Effect). P effect.database)
if_ok P (Ok effect) f = f effect refl
if_ok P (Err number) f = tt

pub writes_keep : WritesKeep
writes_keep = record {
  inserts = λ checks database insert kept. if_ok IsKept (insert_effect checks database insert) (λ effect e. inserts_keep checks database insert effect kept e);
  updates = λ checks database update kept. if_ok IsKept (update_effect checks database update) (λ effect e. updates_keep checks database update effect kept e);
  deletes = λ checks database delete kept. if_ok IsKept (delete_effect checks database delete) (λ effect e. deletes_keep checks database delete effect kept e);
}
