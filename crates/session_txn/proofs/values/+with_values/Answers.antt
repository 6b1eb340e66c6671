use Rattle.std.proofs.Common.{ap, List, map, arith}
use Rattle.sql_ast.specs.declared.expressions.Expr.{Expr}
use Rattle.sql_ast.specs.declared.expressions.Term.{Term}
use Rattle.sql_ast.proofs.expressions.Expr.TheLaws.{the_size}
use Rattle.sql_text.proofs.PartDepths.{ranged_deep}
use Rattle.plain_sessions.specs.Statements.{with_values}
use Rattle.session_txn.specs.Values.{asked_of}
use Rattle.session_txn.proofs.ValueLemmas.{listed_deep, listed_so, made_so, terms_so}
use Rattle.session_txn.proofs.values.+with_values.Goals as goal
use denote.Param.Weighed.{most}

-- the parts are less deep than the node

pub with_values-listed_with_values-requires : goal.with_values-listed_with_values-requires
with_values-listed_with_values-requires t c =
    let shallow = listed_deep c.args.expr.now c.in-Or.a c.in-Or.list c.in-Or.is in
    let first = ap the_size c.get-in-Or.ensures in
    let lent = ap (λ (xs : List Expr). most the_size xs) c.as_slice-in-Or.ensures in
    omega (arith, c.decreases)

pub with_values-between_with_values-requires : goal.with_values-between_with_values-requires
with_values-between_with_values-requires t c =
    let shallow = ranged_deep c.args.expr.now c.in-Between.a c.in-Between.low c.in-Between.high c.in-Between.is in
    let value = ap the_size c.get-in-Between.ensures in
    let low = ap the_size c.get-in-Between-2.ensures in
    let high = ap the_size c.get-in-Between-3.ensures in
    omega (arith, c.decreases)

-- a node with its parts filled in

pub with_values-returns-in-Or : goal.with_values-returns-in-Or
with_values-returns-in-Or t c =
    made_so c.listed_with_values.result _ _
    (listed_so (asked_of c.args.values.now) c.args.expr.now c.in-Or.a _ c.in-Or.list _ c.in-Or.is
    (ap (with_values (asked_of c.args.values.now)) c.get-in-Or.ensures)
    (ap (λ (xs : List Expr). map (with_values (asked_of c.args.values.now)) xs) c.as_slice-in-Or.ensures))
    c.listed_with_values.ensures

pub with_values-returns-in-Terms : goal.with_values-returns-in-Terms
with_values-returns-in-Terms t c =
    made_so c.sum_with_values.result _ _
    (terms_so (asked_of c.args.values.now) c.args.expr.now c.in-Terms.a _ c.in-Terms.list _ c.in-Terms.is
    (ap (with_values (asked_of c.args.values.now)) c.get-in-Terms.ensures)
    (ap (λ (xs : List (Term × Expr)). map (λ (x : Term × Expr). (x.0, with_values (asked_of c.args.values.now) x.1)) xs) c.as_slice.ensures))
    c.sum_with_values.ensures
