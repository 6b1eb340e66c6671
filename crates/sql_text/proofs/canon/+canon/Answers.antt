use Rattle.std.proofs.Common.{◌∙◌, ap, ℕ, List, map, arith}
use Rattle.std.proofs.lemmas.Grind.{common_steps}
use Rattle.sql_ast.specs.declared.expressions.Expr.{Expr}
use Rattle.sql_ast.specs.declared.expressions.Term.{Term}
use Rattle.sql_ast.proofs.expressions.Expr.TheLaws.{the_size}
use Rattle.sql_text.specs.Canon.{chain, sum_text, text}
use Rattle.sql_text.proofs.NodeLemmas.{text_chain, text_contained, text_ranged, text_terms, text_wrapped}
use Rattle.sql_text.proofs.PartDepths.{chain_deep, contained_deep, ranged_deep}
use Rattle.sql_text.proofs.canon.+canon.Goals as goal
use denote.Param.Weighed.{most}

-- the parts are less deep than the node

pub push_expr-push_chain-requires : goal.push_expr-push_chain-requires
push_expr-push_chain-requires t c =
    let shallow = chain_deep c.args.expr.now c.in-Or.a c.in-Or.list c.in-Or.is in
    let first = ap the_size c.get-in-Or.ensures in
    let lent = ap (λ (xs : List Expr). most the_size xs) c.as_slice-in-Or.ensures in
    omega (arith, c.decreases)

pub push_expr-push_contained-requires : goal.push_expr-push_contained-requires
push_expr-push_contained-requires t c =
    let shallow = contained_deep c.args.expr.now c.in-In.a c.in-In.list c.in-In.is in
    let first = ap the_size c.get-in-In.ensures in
    let lent = ap (λ (xs : List Expr). most the_size xs) c.as_slice-in-In.ensures in
    omega (arith, c.decreases)

pub push_expr-push_ranged-requires : goal.push_expr-push_ranged-requires
push_expr-push_ranged-requires t c =
    let shallow = ranged_deep c.args.expr.now c.in-Between.a c.in-Between.low c.in-Between.high c.in-Between.is in
    let value = ap the_size c.get-in-Between.ensures in
    let low = ap the_size c.get-in-Between-2.ensures in
    let high = ap the_size c.get-in-Between-3.ensures in
    omega (arith, c.decreases)

-- what is written is the node's text

pub push_expr-returns-in-Or : goal.push_expr-returns-in-Or
push_expr-returns-in-Or t c =
    let node = text_chain c.args.expr.now c.in-Or.a c.in-Or.list c.in-Or.is in
    let said = ap (λ (word : List ℕ). chain word (text c.get-in-Or.result.now) (map text c.as_slice-in-Or.result.now)) c.operator_of.ensures in
    let lent = ap (λ (xs : List Expr). map text xs) c.as_slice-in-Or.ensures in
    grind (arith, common_steps, node, said, lent)

pub push_expr-returns-in-Terms : goal.push_expr-returns-in-Terms
push_expr-returns-in-Terms t c =
    let node = ap (λ (x : Expr). text x) c.in-Terms.is ∙ text_terms c.in-Terms.a c.in-Terms.list in
    let lent = ap (λ (xs : List (Term × Expr)). sum_text (text c.get.result.now) (map (λ x. (x.0, text x.1)) xs)) c.as_slice.ensures in
    grind (arith, common_steps, node, lent)

pub push_expr-returns-in_ok-push_expr-in-Not : goal.push_expr-returns-in_ok-push_expr-in-Not
push_expr-returns-in_ok-push_expr-in-Not t c =
    let node = text_wrapped c.args.expr.now c.in-Not.a c.in-Not.is in
    grind (arith, common_steps, node)

pub push_expr-returns-in_ok-push_contained-in-In : goal.push_expr-returns-in_ok-push_contained-in-In
push_expr-returns-in_ok-push_contained-in-In t c =
    let node = text_contained c.args.expr.now c.in-In.a c.in-In.list c.in-In.is in
    let lent = ap (λ (xs : List Expr). map text xs) c.as_slice-in-In.ensures in
    grind (arith, common_steps, node, lent)

pub push_expr-returns-in_ok-push_ranged-in-Between : goal.push_expr-returns-in_ok-push_ranged-in-Between
push_expr-returns-in_ok-push_ranged-in-Between t c =
    let node = text_ranged c.args.expr.now c.in-Between.a c.in-Between.low c.in-Between.high c.in-Between.is in
    grind (arith, common_steps, node)
