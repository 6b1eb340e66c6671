-- What an UPDATE or a DELETE does to the rows, and what follows.
use Rattle.std.proofs.Common.{◌≡◌, ℕ, true, List, [], ◌∷◌, map, Ok, Err, refl}
use Rattle.std.specs.List.{count_by, list_all}
use Rattle.std.proofs.lemmas.Bool.{and_from, and_parts}
use Rattle.tuple_codec.specs.Limits.{is_type}
use Rattle.schema_model.specs.Schemas.{is_column, is_schema}
use Rattle.schema_model.specs.declared.schemas.Column.{Column}
use Rattle.schema_model.specs.declared.schemas.Schema.{Schema}
use Rattle.schema_model.proofs.FitLemmas.{form_of}
use Rattle.tuple_codec.specs.Rows.{Cells}
use Rattle.schema_model.specs.PlainTables.{PlainDatabase, PlainTable}
use Rattle.sql_ast.specs.declared.statements.Delete.{Delete}
use Rattle.sql_ast.specs.declared.statements.Update.{Update}
use Rattle.expr_eval.specs.Binding.{Outcome, and_then}
use Rattle.expr_eval.specs.declared.scopes.ScopeColumn.{ScopeColumn}
use Rattle.plain_sql.specs.Lists.{each}
use Rattle.plain_writes.specs.declared.updating.Later.{Later}
use Rattle.plain_writes.specs.Steps.{updated_by}
use Rattle.plain_writes.specs.Violations.{Checks, own_scope}
use Rattle.plain_writes.specs.Writes.{Assign, Effect, bound_assignment, by_key, deleted, filled, rest_of, result_of, stays, tests_of, turned_small, updated}
use Rattle.sql_write.specs.Turning.{filling, rows_deleted, rows_updated, rows_updated_by, turned_rows}
use Rattle.sql_write.specs.declared.turning.Turned.{Turned}

columns_typed : (columns : List Column) → list_all is_column columns ≡ true → list_all (λ column. is_type column.kind) columns ≡ true
columns_typed [] fit = refl
columns_typed (column ∷ columns) fit =
    let parts = and_parts (is_column column) (list_all is_column columns) fit in
    and_from (is_type column.kind) (list_all (λ column. is_type column.kind) columns) (and_parts _ (is_type column.kind) (and_parts _ _ parts.0).0).1 (columns_typed columns parts.1)

pub schema_typed : (schema : Schema) → is_schema schema ≡ true → list_all (λ column. is_type column.kind) schema.columns ≡ true
schema_typed schema valid = columns_typed schema.columns (form_of schema valid).columns

-- what follows both follows the second
pub under : {A B C : Type 0} → (x : Outcome A) (f : A → Outcome B) (g : A → Outcome C) (h : B → Outcome C) → ((y : A) → g y ≡ and_then (f y) h) → and_then x g ≡ and_then (and_then x f) h
under (Ok y) f g h e = e y
under (Err number) f g h e = refl

result_splits : (checks : Checks) (database : PlainDatabase) (name : List ℕ) (table : PlainTable) (rows : List Cells) (count : ℕ)
    → result_of checks database name table rows count ≡ and_then (turned_rows table.schema rows count) (filling checks database name table)
result_splits checks database name table rows count =
    under (by_key table.schema rows) (λ sorted. Ok (record { rows = sorted; count = count })) (filled checks database name table count) (filling checks database name table) (λ sorted. refl)

bound_splits : (checks : Checks) (database : PlainDatabase) (update : Update) (table : PlainTable) (scope : List ScopeColumn) (sets : List Assign)
    → updated_by checks database update table scope sets ≡ and_then (rows_updated_by table.schema table.rows update.filter scope sets) (filling checks database update.table table)
bound_splits checks database update table scope sets =
    let next : Turned → Outcome Effect = filling checks database update.table table in
    let turn : List Later → Outcome Turned = λ later. turned_rows table.schema (map (λ one. one.row) later) (count_by (λ one. one.is_new) later) in
    let fill : List Later → Outcome Effect = λ later. result_of checks database update.table table (map (λ one. one.row) later) (count_by (λ one. one.is_new) later) in
    under (tests_of scope update.filter) (λ tests. and_then (each (turned_small table.schema tests sets) table.rows) turn) (λ tests. and_then (each (turned_small table.schema tests sets) table.rows) fill) next
    (λ tests. under (each (turned_small table.schema tests sets) table.rows) turn fill next
    (λ later. result_splits checks database update.table table (map (λ one. one.row) later) (count_by (λ one. one.is_new) later)))

pub update_splits : (checks : Checks) (database : PlainDatabase) (update : Update) (table : PlainTable)
    → updated checks database update table ≡ and_then (rows_updated table.schema table.rows update) (filling checks database update.table table)
update_splits checks database update table =
    let scope : List ScopeColumn = own_scope update.table table.schema in
    under (each (bound_assignment table.schema scope) update.assignments) (rows_updated_by table.schema table.rows update.filter scope) (updated_by checks database update table scope)
    (filling checks database update.table table) (bound_splits checks database update table scope)

pub delete_splits : (checks : Checks) (database : PlainDatabase) (delete : Delete) (table : PlainTable)
    → deleted checks database delete table ≡ and_then (rows_deleted table.schema table.rows delete) (filling checks database delete.table table)
delete_splits checks database delete table =
    let next : Turned → Outcome Effect = filling checks database delete.table table in
    let turn : List Later → Outcome Turned = λ later. turned_rows table.schema (rest_of later) (count_by (λ one. one.is_new) later) in
    let fill : List Later → Outcome Effect = λ later. result_of checks database delete.table table (rest_of later) (count_by (λ one. one.is_new) later) in
    under (tests_of (own_scope delete.table table.schema) delete.filter) (λ tests. and_then (each (stays tests) table.rows) turn) (λ tests. and_then (each (stays tests) table.rows) fill) next
    (λ tests. under (each (stays tests) table.rows) turn fill next
    (λ later. result_splits checks database delete.table table (rest_of later) (count_by (λ one. one.is_new) later)))
