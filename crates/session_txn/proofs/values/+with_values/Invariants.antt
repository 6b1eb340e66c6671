use Rattle.std.proofs.Common.{◌≡◌, ◌++◌, ◌+◌, ◌*◌, drop, map, max}
use Rattle.sql_ast.proofs.expressions.Expr.TheLaws.{the_size}
use Rattle.plain_sessions.specs.Statements.{with_values}
use Rattle.session_txn.specs.Values.{asked_of}
use Rattle.session_txn.proofs.values.+with_values.Given as goal
use denote.Param.Weighed.{most}

-- how deep the deepest part is: what takes a node apart stands below the node, and a list below what it is a part of
abbrev pub decreases-with_values : goal.decreases-with_values
decreases-with_values l = 3 * the_size l.expr.now

abbrev pub decreases-listed_with_values : goal.decreases-listed_with_values
decreases-listed_with_values l = 3 * max (the_size l.first.now) (most the_size l.list.now) + 2

abbrev pub decreases-compared_with_values : goal.decreases-compared_with_values
decreases-compared_with_values l = 3 * max (the_size l.a.now) (the_size l.b.now) + 2

abbrev pub decreases-between_with_values : goal.decreases-between_with_values
decreases-between_with_values l = 3 * max (the_size l.value.now) (max (the_size l.low.now) (the_size l.high.now)) + 2

abbrev pub decreases-sum_with_values : goal.decreases-sum_with_values
decreases-sum_with_values l = 3 * max (the_size l.first.now) (most (λ x. max 0 (max (the_size x.1) 0)) l.list.now) + 2

abbrev pub decreases-all_with_values : goal.decreases-all_with_values
decreases-all_with_values l = 3 * most the_size l.list.now + 1

abbrev pub decreases-terms_with_values : goal.decreases-terms_with_values
decreases-terms_with_values l = 3 * most (λ x. max 0 (max (the_size x.1) 0)) l.list.now + 1

-- what is made, and what is left to make, are all of it
abbrev pub invariant-all_with_values-loop-expr : goal.invariant-all_with_values-loop-expr
invariant-all_with_values-loop-expr l = l.made ++ map (with_values (asked_of l.values)) (drop l.expr-index l.list) ≡ map (with_values (asked_of l.values)) l.list

abbrev pub invariant-terms_with_values-loop-term : goal.invariant-terms_with_values-loop-term
invariant-terms_with_values-loop-term l =
    l.made ++ map (λ x. (x.0, with_values (asked_of l.values) x.1)) (drop l.term-index l.list) ≡ map (λ x. (x.0, with_values (asked_of l.values) x.1)) l.list
