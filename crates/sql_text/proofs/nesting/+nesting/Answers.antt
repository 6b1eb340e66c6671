use Rattle.std.proofs.Common.{◌∙◌, ap, List, map, max, arith}
use Rattle.sql_ast.specs.declared.expressions.Expr.{Expr}
use Rattle.sql_ast.specs.declared.expressions.Term.{Term}
use Rattle.sql_ast.proofs.expressions.Expr.TheLaws.{the_size}
use Rattle.sql_ast.proofs.ListNodes.{terms_size}
use Rattle.sql_text.specs.Nesting.{greatest, nesting}
use Rattle.sql_text.proofs.ListParts.{listed_size, nesting_listed, nesting_terms}
use Rattle.sql_text.proofs.nesting.+nesting.Goals as goal
use denote.Param.Weighed.{most}

pub levels-most_levels-requires : goal.levels-most_levels-requires
levels-most_levels-requires t c =
    let shallow = listed_size c.args.expr.now c.in-Or.a c.in-Or.list c.in-Or.is in
    let lent = ap (λ (xs : List Expr). most the_size xs) c.as_slice-in-Or.ensures in
    omega (arith, c.decreases)

pub levels-most_term_levels-requires : goal.levels-most_term_levels-requires
levels-most_term_levels-requires t c =
    let shallow = terms_size c.in-Terms.a c.in-Terms.list in
    let lent = ap (λ (xs : List (Term × Expr)). most (λ x. max 0 (max (the_size x.1) 0)) xs) c.as_slice.ensures in
    let node = ap the_size c.in-Terms.is in
    omega (arith, c.decreases)

pub levels-returns-in-Or : goal.levels-returns-in-Or
levels-returns-in-Or t c =
    let node = nesting_listed c.args.expr.now c.in-Or.a c.in-Or.list c.in-Or.is in
    let first = ap (λ (x : Expr). nesting x) c.get-in-Or.ensures in
    let lent = ap (λ (xs : List Expr). greatest (map nesting xs)) c.as_slice-in-Or.ensures in
    cc

pub levels-returns-in-Terms : goal.levels-returns-in-Terms
levels-returns-in-Terms t c =
    let node = ap (λ (x : Expr). nesting x) c.in-Terms.is ∙ nesting_terms c.in-Terms.a c.in-Terms.list in
    let first = ap (λ (x : Expr). nesting x) c.get-in-Terms.ensures in
    let lent = ap (λ (xs : List (Term × Expr)). greatest (map (λ x. nesting x.1) xs)) c.as_slice.ensures in
    cc
