-- A database with a table more, one less, and with other rows in one.
use Rattle.std.proofs.Common.{◌≡◌, sym, ap, ◌∙◌, subst, ℕ, Bool, true, false, cond, not, List, [], ◌∷◌, ◌++◌, length, map, nat_cmp, is_lt, Option, Some, None, Ok, Err}
use Rattle.std.specs.Prelude.{IfOk}
use Rattle.std.specs.Cmp.Lexicographic.{bytes_decides, slice_cmp}
use Rattle.std.specs.List.{count_by, find, list_any}
use Rattle.std.specs.Option.{option_map}
use Rattle.tuple_codec.specs.Rows.{Cells}
use Rattle.schema_model.specs.PlainTables.{NamedTable, PlainDatabase, PlainTable}
use Rattle.sql_ast.specs.declared.statements.Delete.{Delete}
use Rattle.sql_ast.specs.declared.statements.Insert.{Insert}
use Rattle.sql_ast.specs.declared.statements.Update.{Update}
use Rattle.sql_ast.specs.declared.tables.DropTable.{DropTable}
use Rattle.expr_eval.specs.Binding.{Outcome, and_then}
use Rattle.plain_sql.specs.Answers.{Meaning}
use Rattle.plain_sql.specs.Lists.{each, or_refuse, unless}
use Rattle.plain_writes.specs.Violations.{Checks, is_called, own_scope, table_in}
use Rattle.plain_writes.specs.Writes.{Assign, Effect, Said, bound_assignment, by_key, delete_effect, deleted, effect_if, filled, insert_effect, inserted, new_row, on_table, places_named, replaced, rest_of, result_of, stays, tests_of, tuple_said, turned_small, update_effect, updated, with_rows}
use Rattle.plain_writes.specs.declared.updating.Later.{Later}
use Rattle.plain_schemas.specs.Effects.{changed_to, drop_effect, is_child, is_there, placed_in, without_table}
use Rattle.plain_writes.proofs.RowOrderLemmas.{two}
use Rattle.plain_writes.proofs.OutcomeLemmas.{found_so}
use Rattle.check_laws.specs.Meant.{AreMeant, IsMeantTable}
use Rattle.check_laws.proofs.Outcomes.{then_ok, unless_ok}

abbrev pub IsMeantNamed : NamedTable → Type 0
IsMeantNamed named = IsMeantTable named.name named.table.schema

-- ---- the table of a name

pub found_meant : (name : List ℕ) (database : PlainDatabase) (table : PlainTable) → AreMeant database → table_in database name ≡ Some table → IsMeantTable name table.schema
found_meant name [] table meant e = cc
found_meant name (named ∷ database) table meant e = two (is_called name named)
    (λ t. let same : Some named.table ≡ Some table = sym (ap (λ b. option_map (λ (named : NamedTable). named.table) (cond b (Some named) (find (is_called name) database))) t) ∙ e in
    let is : named.table ≡ table = cc in
    subst (λ (table : PlainTable). IsMeantTable name table.schema) is (subst (λ n. IsMeantTable n named.table.schema) ((bytes_decides named.name name).0 t) meant.0))
    (λ t. found_meant name database table meant.1 (sym (ap (λ b. option_map (λ (named : NamedTable). named.table) (cond b (Some named) (find (is_called name) database))) t) ∙ e))

pub replaced_meant : (name : List ℕ) (table : PlainTable) (database : PlainDatabase) → IsMeantTable name table.schema → AreMeant database → AreMeant (replaced name table database)
replaced_meant name table [] it meant = tt
replaced_meant name table (named ∷ database) it meant = (
  two (is_called name named)
      (λ t. subst IsMeantNamed (sym (ap (λ b. cond b (record { name = name; table = table }) named) t)) it)
      (λ t. subst IsMeantNamed (sym (ap (λ b. cond b (record { name = name; table = table }) named) t)) meant.0),
  replaced_meant name table database it meant.1,
)

pub placed_meant : (new : NamedTable) (database : PlainDatabase) → IsMeantNamed new → AreMeant database → AreMeant (placed_in new database)
placed_meant new [] it meant = (it, tt)
placed_meant new (named ∷ database) it meant =
    let later = placed_meant new database it meant.1 in
    elim (is_lt (slice_cmp nat_cmp new.name named.name)) as (λ b. AreMeant (cond b (new ∷ named ∷ database) (named ∷ placed_in new database))) [
      | true ↦ (it, meant)
      | false ↦ (meant.0, later)
    ]

pub without_meant : (name : List ℕ) (database : PlainDatabase) → AreMeant database → AreMeant (without_table name database)
without_meant name [] meant = tt
without_meant name (named ∷ database) meant =
    let later = without_meant name database meant.1 in
    elim (not (is_called name named)) as (λ b. AreMeant (cond b (named ∷ without_table name database) (without_table name database))) [
      | true ↦ (meant.0, later)
      | false ↦ later
    ]

-- ---- statements

abbrev pub IsMeantEffect : Effect → Type 0
IsMeantEffect effect = AreMeant effect.database

effect_meant : (number : Option ℕ) (large : Bool) (effect : Effect) → IsMeantEffect effect → IfOk (effect_if number large effect) IsMeantEffect
effect_meant (Some number) large effect it = tt
effect_meant None large effect it = unless_ok IsMeantEffect large 9010 (Ok effect) (λ small. it)

result_meant : (checks : Checks) (old : PlainDatabase) (name : List ℕ) (table : PlainTable) (rows : List Cells) (count : ℕ) → AreMeant old → IsMeantTable name table.schema
    → IfOk (result_of checks old name table rows count) IsMeantEffect
result_meant checks old name table rows count meant it =
    then_ok IsMeantEffect (by_key table.schema rows) (filled checks old name table count) (λ sorted h.
    effect_meant _ _ (record { database = replaced name (with_rows table sorted) old; count = Some count }) (replaced_meant name (with_rows table sorted) old it meant))

pub on_table_meant : (database : PlainDatabase) (name : List ℕ) (next : PlainTable → Outcome Effect) → AreMeant database
    → ((table : PlainTable) → table_in database name ≡ Some table → IsMeantTable name table.schema → IfOk (next table) IsMeantEffect) → IfOk (on_table database name next) IsMeantEffect
on_table_meant database name next meant keeps =
    then_ok IsMeantEffect (or_refuse 1146 (table_in database name)) next (λ table h.
    let found = found_so 1146 (table_in database name) table h in keeps table found (found_meant name database table meant found))

pub inserts_meant : (checks : Checks) (database : PlainDatabase) (insert : Insert) → AreMeant database → IfOk (insert_effect checks database insert) IsMeantEffect
inserts_meant checks database insert meant = on_table_meant database insert.table (inserted checks database insert) meant by_table
  where
    by_table : (table : PlainTable) → table_in database insert.table ≡ Some table → IsMeantTable insert.table table.schema → IfOk (inserted checks database insert table) IsMeantEffect
    by_table table found it =
        let result : List Cells → Outcome Effect = λ rows. result_of checks database insert.table table (table.rows ++ rows) (length rows) in
        let by_said : List ℕ → List (List Said) → Outcome Effect = λ places said. and_then (each (new_row table.schema places) said) result in
        let by_places : List ℕ → Outcome Effect = λ places. and_then (each (tuple_said table.schema places) insert.tuples) (by_said places) in
        then_ok IsMeantEffect (places_named table.schema insert.columns) by_places (λ places h.
        then_ok IsMeantEffect (each (tuple_said table.schema places) insert.tuples) (by_said places) (λ said i.
        then_ok IsMeantEffect (each (new_row table.schema places) said) result (λ rows j.
        result_meant checks database insert.table table (table.rows ++ rows) (length rows) meant it)))

pub updates_meant : (checks : Checks) (database : PlainDatabase) (update : Update) → AreMeant database → IfOk (update_effect checks database update) IsMeantEffect
updates_meant checks database update meant = on_table_meant database update.table (updated checks database update) meant by_table
  where
    by_table : (table : PlainTable) → table_in database update.table ≡ Some table → IsMeantTable update.table table.schema → IfOk (updated checks database update table) IsMeantEffect
    by_table table found it =
        let scope = own_scope update.table table.schema in
        let result : List Later → Outcome Effect = λ rows. result_of checks database update.table table (map (λ (one : Later). one.row) rows) (count_by (λ (one : Later). one.is_new) rows) in
        let by_tests : List Assign → List Meaning → Outcome Effect = λ sets tests. and_then (each (turned_small table.schema tests sets) table.rows) result in
        let by_sets : List Assign → Outcome Effect = λ sets. and_then (tests_of scope update.filter) (by_tests sets) in
        then_ok IsMeantEffect (each (bound_assignment table.schema scope) update.assignments) by_sets (λ sets h.
        then_ok IsMeantEffect (tests_of scope update.filter) (by_tests sets) (λ tests i.
        then_ok IsMeantEffect (each (turned_small table.schema tests sets) table.rows) result (λ rows j.
        result_meant checks database update.table table (map (λ (one : Later). one.row) rows) (count_by (λ (one : Later). one.is_new) rows) meant it)))

pub deletes_meant : (checks : Checks) (database : PlainDatabase) (delete : Delete) → AreMeant database → IfOk (delete_effect checks database delete) IsMeantEffect
deletes_meant checks database delete meant = on_table_meant database delete.table (deleted checks database delete) meant by_table
  where
    by_table : (table : PlainTable) → table_in database delete.table ≡ Some table → IsMeantTable delete.table table.schema → IfOk (deleted checks database delete table) IsMeantEffect
    by_table table found it =
        let result : List Later → Outcome Effect = λ rows. result_of checks database delete.table table (rest_of rows) (count_by (λ (one : Later). one.is_new) rows) in
        let by_tests : List Meaning → Outcome Effect = λ tests. and_then (each (stays tests) table.rows) result in
        then_ok IsMeantEffect (tests_of (own_scope delete.table table.schema) delete.filter) by_tests (λ tests h.
        then_ok IsMeantEffect (each (stays tests) table.rows) result (λ rows i.
        result_meant checks database delete.table table (rest_of rows) (count_by (λ (one : Later). one.is_new) rows) meant it))

-- what IF EXISTS leaves
pub left_meant : (number : ℕ) (database : PlainDatabase) (goes_on : Bool) → AreMeant database → let same : Outcome Effect = cond goes_on (Ok (changed_to database)) (Err number) in IfOk same IsMeantEffect
left_meant number database true meant = meant
left_meant number database false meant = tt

pub drops_meant : (database : PlainDatabase) (drop : DropTable) → AreMeant database → IfOk (drop_effect database drop) IsMeantEffect
drops_meant database drop meant =
    let whole : Outcome Effect = Ok (changed_to (without_table drop.table database)) in
    elim (is_there database drop.table) as (λ b. IfOk (cond b (unless (list_any (is_child drop.table) database) 1451 whole) (cond drop.if_exists (Ok (changed_to database)) (Err 1146))) IsMeantEffect) [
      | true ↦ unless_ok IsMeantEffect (list_any (is_child drop.table) database) 1451 whole (λ h. without_meant drop.table database meant)
      | false ↦ left_meant 1146 database drop.if_exists meant
    ]
