-- What an UPDATE asks of a row, and what it sets.
use Rattle.std.specs.Prelude.{◌≡◌, true, List, map, Option, Ok}
use Rattle.tuple_codec.specs.Rows.{Cells}
use Rattle.schema_model.specs.declared.schemas.Schema.{Schema}
use Rattle.sql_ast.specs.declared.expressions.Expr.{Expr}
use Rattle.sql_ast.specs.declared.statements.Update.{Update}
use Rattle.expr_eval.specs.Binding.{Outcome, and_then}
use Rattle.expr_eval.specs.declared.scopes.ScopeColumn.{ScopeColumn}
use Rattle.plain_sql.specs.Answers.{Meaning}
use Rattle.plain_sql.specs.Lists.{each}
use Rattle.plain_sql.specs.Plans.{meaning}
use Rattle.plain_writes.specs.Seen.{setting_seen}
use Rattle.plain_writes.specs.Violations.{own_scope}
use Rattle.plain_writes.specs.Writes.{Assign, bound_assignment, tests_of}
use Rattle.sql_write.specs.Passing.{AreRead, sets_key}
use Rattle.sql_write.specs.declared.turning.BoundUpdate.{BoundUpdate}

pub record Turning : Type 0 where
  pub sets : List Assign
  pub tests : List Meaning

abbrev pub change_seen : BoundUpdate → Turning
change_seen change = record { sets = map setting_seen change.settings; tests = map meaning change.tests }

-- with bound assignments
abbrev pub change_with : List ScopeColumn → Option Expr → List Assign → Outcome Turning
change_with scope filter sets = and_then (tests_of scope filter) (λ tests. Ok (record { sets = sets; tests = tests }))

abbrev pub change_of : Schema → Update → Outcome Turning
change_of schema update =
    let scope = own_scope update.table schema in
    and_then (each (bound_assignment schema scope) update.assignments) (change_with scope update.filter)

-- of all rows these were read: all, where a column of the primary key is set, and else the tests leave out the others
pub record AreToTurn (schema : Schema) (turning : Turning) (all read : List Cells) : Type 0 where
  pub passed : AreRead turning.tests all read
  pub whole : sets_key schema turning.sets ≡ true → all ≡ read
