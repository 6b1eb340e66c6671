-- What is left of an UPDATE once its assignments are bound.
use Rattle.std.specs.Prelude.{List, map}
use Rattle.std.specs.List.{count_by}
use Rattle.schema_model.specs.PlainTables.{PlainDatabase, PlainTable}
use Rattle.sql_ast.specs.declared.statements.Update.{Update}
use Rattle.expr_eval.specs.Binding.{Outcome, and_then}
use Rattle.expr_eval.specs.declared.scopes.ScopeColumn.{ScopeColumn}
use Rattle.plain_sql.specs.Lists.{each}
use Rattle.plain_writes.specs.Violations.{Checks}
use Rattle.plain_writes.specs.Writes.{Assign, Effect, result_of, tests_of, turned_small}

abbrev pub updated_by : Checks → PlainDatabase → Update → PlainTable → List ScopeColumn → List Assign → Outcome Effect
updated_by checks database update table scope sets =
    and_then (tests_of scope update.filter) (λ tests.
    and_then (each (turned_small table.schema tests sets) table.rows) (λ rows.
    result_of checks database update.table table (map (λ one. one.row) rows) (count_by (λ one. one.is_new) rows)))
