-- The rows of a table after an UPDATE or a DELETE.
use Rattle.std.specs.Prelude.{◌≡◌, ℕ, List, map, Option, Ok}
use Rattle.std.specs.List.{count_by}
use Rattle.tuple_codec.specs.Rows.{Cells}
use Rattle.schema_model.specs.PlainTables.{PlainDatabase, PlainTable}
use Rattle.schema_model.specs.declared.schemas.Schema.{Schema}
use Rattle.sql_ast.specs.declared.expressions.Expr.{Expr}
use Rattle.sql_ast.specs.declared.statements.Delete.{Delete}
use Rattle.sql_ast.specs.declared.statements.Update.{Update}
use Rattle.expr_eval.specs.Binding.{Outcome, and_then}
use Rattle.expr_eval.specs.declared.scopes.ScopeColumn.{ScopeColumn}
use Rattle.plain_sql.specs.Answers.{Meaning}
use Rattle.plain_sql.specs.Lists.{each}
use Rattle.plain_writes.specs.Violations.{Checks, own_scope}
use Rattle.plain_writes.specs.Writes.{Assign, Effect, bound_assignment, by_key, deleted, filled, rest_of, stays, tests_of, turned_small, updated}
use Rattle.sql_write.specs.declared.turning.Turned.{Turned}

-- these rows in the order of their keys, each key once; so many were written
abbrev pub turned_rows : Schema → List Cells → ℕ → Outcome Turned
turned_rows schema rows count = and_then (by_key schema rows) (λ sorted. Ok (record { rows = sorted; count = count }))

-- an UPDATE with bound assignments and tests, up to what it does to the rows
abbrev pub rows_turned_by : Schema → List Cells → List Assign → List Meaning → Outcome Turned
rows_turned_by schema rows sets tests =
    and_then (each (turned_small schema tests sets) rows) (λ later. turned_rows schema (map (λ one. one.row) later) (count_by (λ one. one.is_new) later))

-- an UPDATE with bound assignments, up to what it does to the rows
abbrev pub rows_updated_by : Schema → List Cells → Option Expr → List ScopeColumn → List Assign → Outcome Turned
rows_updated_by schema rows filter scope sets = and_then (tests_of scope filter) (rows_turned_by schema rows sets)

-- an UPDATE, up to what it does to the rows
abbrev pub rows_updated : Schema → List Cells → Update → Outcome Turned
rows_updated schema rows update =
    let scope = own_scope update.table schema in
    and_then (each (bound_assignment schema scope) update.assignments) (rows_updated_by schema rows update.filter scope)

-- a DELETE with bound tests, up to what it does to the rows
abbrev pub rows_deleted_by : Schema → List Cells → List Meaning → Outcome Turned
rows_deleted_by schema rows tests = and_then (each (stays tests) rows) (λ later. turned_rows schema (rest_of later) (count_by (λ one. one.is_new) later))

-- a DELETE, up to what it does to the rows
abbrev pub rows_deleted : Schema → List Cells → Delete → Outcome Turned
rows_deleted schema rows delete = and_then (tests_of (own_scope delete.table schema) delete.filter) (rows_deleted_by schema rows)

-- what comes of the rows then
abbrev pub filling : Checks → PlainDatabase → List ℕ → PlainTable → Turned → Outcome Effect
filling checks database name table turned = filled checks database name table turned.count turned.rows

-- an UPDATE or a DELETE is what it does to the rows, and then what comes of these
pub record RowsComeFirst : Type 0 where
  pub update : (checks : Checks) (database : PlainDatabase) (update : Update) (table : PlainTable)
      → updated checks database update table ≡ and_then (rows_updated table.schema table.rows update) (filling checks database update.table table)
  pub delete : (checks : Checks) (database : PlainDatabase) (delete : Delete) (table : PlainTable)
      → deleted checks database delete table ≡ and_then (rows_deleted table.schema table.rows delete) (filling checks database delete.table table)
