use Rattle.std.proofs.Common.{◌+◌, ◌++◌, List, ap, drop, map}
use Rattle.std.specs.Option.{option_to_list}
use Rattle.sql_ast.specs.declared.expressions.Expr.{Expr}
use Rattle.sql_ast.specs.declared.selects.Join.{Join}
use Rattle.sql_ast.specs.declared.selects.Query.{Query}
use Rattle.plain_sql.specs.Lists.{each}
use Rattle.plain_sql.specs.Plans.{condition, conditions, meaning}
use Rattle.plain_sql.proofs.EachLemmas.{next_is, no_memory, none_given, one_given, seen_behind}
use Rattle.plain_sql.proofs.planning.tests.Goals as goal

-- the conditions of these joins, and WHERE
abbrev then_where : Query → List Join → List Expr
then_where query joins = map (λ join. join.on) joins ++ option_to_list query.clauses.filter

pub loop-join-preserved : goal.loop-join-preserved
loop-join-preserved c =
    let joins = c.as_slice-joins.result.now in
    let at = c.loop-join.join-index in
    let query = c.args.query.now in
    one_given (condition c.args.scope.now) (then_where query (drop at joins)) (then_where query (drop (at + 1) joins)) c.join-item.result.on
    (map meaning c.loop-join.tests) _ (meaning c.in_ok-condition.field-0) _
    (ap (then_where query) (next_is joins at c.join-item.result c.loop-join-test.true c.join-item.is))
    c.in_ok-condition.ensures (seen_behind meaning c.loop-join.tests _ c.in_ok-condition.field-0 c.in_ok-push.ensures.ok) c.loop-join.invariant

pub returns-in_err-condition : goal.returns-in_err-condition
returns-in_err-condition c =
    let joins = c.as_slice-joins.result.now in
    let at = c.loop-join.join-index in
    let query = c.args.query.now in
    none_given (condition c.args.scope.now) meaning (map meaning) (then_where query (drop at joins)) (then_where query (drop (at + 1) joins)) c.join-item.result.on
    (map meaning c.loop-join.tests) _ c.in_err-condition.field-0.0
    (ap (then_where query) (next_is joins at c.join-item.result c.loop-join-test.true c.join-item.is))
    c.in_err-condition.ensures c.loop-join.invariant c.from_residual.result c.from_residual.ensures

pub returns-in_err-push : goal.returns-in_err-push
returns-in_err-push c = no_memory (map meaning) (each (condition c.args.scope.now) (conditions c.args.query.now)) c.from_residual-in_err-push.result c.from_residual-in_err-push.ensures
