use Rattle.std.proofs.Common.{◌≡◌, ◌∙◌, sym, ap, ap₂, List, map, max, arith}
use Rattle.sql_ast.specs.declared.expressions.Expr.{Expr}
use Rattle.sql_ast.specs.declared.expressions.Expr.TheVariants as e
use Rattle.sql_ast.specs.declared.expressions.Term.{Term}
use Rattle.sql_ast.proofs.expressions.Expr.TheLaws.{the_size}
use Rattle.sql_ast.proofs.ListNodes.{in_size, not_in_size, terms_size, fold_in, fold_not_in}
use Rattle.sql_text.specs.Nesting.{greatest}
use Rattle.sql_text.specs.Depths.{chained, depth, depth_at, contained, enclosed}
use Rattle.sql_text.proofs.ListParts.{chained_size, depth_chained, depth_terms}
use Rattle.sql_text.proofs.depths.+depths.Goals as goal
use denote.Param.Weighed.{most}

depth_in : (a : Expr) (xs : List Expr) → depth (e.In a xs) ≡ contained (depth a) (map depth xs)
depth_in a xs = fold_in depth_at a xs

depth_not_in : (a : Expr) (xs : List Expr) → depth (e.NotIn a xs) ≡ enclosed (contained (depth a) (map depth xs))
depth_not_in a xs = fold_not_in depth_at a xs

pub open_at_once-open_in_chain-requires : goal.open_at_once-open_in_chain-requires
open_at_once-open_in_chain-requires t c =
    let shallow = chained_size c.args.expr.now c.in-Or.a c.in-Or.list c.in-Or.is in
    let lent = ap (λ (xs : List Expr). most the_size xs) c.as_slice-in-Or.ensures in
    omega (arith, c.decreases)

pub open_at_once-open_in_sum-requires : goal.open_at_once-open_in_sum-requires
open_at_once-open_in_sum-requires t c =
    let shallow = terms_size c.in-Terms.a c.in-Terms.list in
    let lent = ap (λ (xs : List (Term × Expr)). most (λ x. max 0 (max (the_size x.1) 0)) xs) c.as_slice.ensures in
    let node = ap the_size c.in-Terms.is in
    omega (arith, c.decreases)

pub open_at_once-most_open-requires : goal.open_at_once-most_open-requires
open_at_once-most_open-requires t c =
    let shallow = in_size c.in-In.a c.in-In.list in
    let lent = ap (λ (xs : List Expr). most the_size xs) c.as_slice-in-In.ensures in
    let node = ap the_size c.in-In.is in
    omega (arith, c.decreases)

pub open_at_once-most_open-requires-in-NotIn : goal.open_at_once-most_open-requires-in-NotIn
open_at_once-most_open-requires-in-NotIn t c =
    let shallow = not_in_size c.in-NotIn.a c.in-NotIn.list in
    let lent = ap (λ (xs : List Expr). most the_size xs) c.as_slice-in-NotIn.ensures in
    let node = ap the_size c.in-NotIn.is in
    omega (arith, c.decreases)

pub open_at_once-returns-in-Or : goal.open_at_once-returns-in-Or
open_at_once-returns-in-Or t c =
    c.open_in_chain.ensures
    ∙ ap₂ chained (c.open_at_once-in-Or.ensures ∙ ap (λ (x : Expr). depth x) c.get-in-Or.ensures) (ap (λ (xs : List Expr). map depth xs) c.as_slice-in-Or.ensures)
    ∙ sym (depth_chained c.args.expr.now c.in-Or.a c.in-Or.list c.in-Or.is)

pub open_at_once-returns-in-Terms : goal.open_at_once-returns-in-Terms
open_at_once-returns-in-Terms t c =
    c.open_in_sum.ensures
    ∙ ap₂ chained (c.open_at_once.ensures ∙ ap (λ (x : Expr). depth x) c.get.ensures) (ap (λ (xs : List (Term × Expr)). map (λ x. depth x.1) xs) c.as_slice.ensures)
    ∙ sym (ap (λ (x : Expr). depth x) c.in-Terms.is ∙ depth_terms c.in-Terms.a c.in-Terms.list)

pub open_at_once-returns-in-In : goal.open_at_once-returns-in-In
open_at_once-returns-in-In t c =
    let node = ap (λ (x : Expr). depth x) c.in-In.is ∙ depth_in c.in-In.a c.in-In.list in
    let first = ap (λ (x : Expr). depth x) c.get-in-In.ensures in
    let lent = ap (λ (xs : List Expr). greatest (map depth xs)) c.as_slice-in-In.ensures in
    cc

pub open_at_once-returns-in-NotIn : goal.open_at_once-returns-in-NotIn
open_at_once-returns-in-NotIn t c =
    let node = ap (λ (x : Expr). depth x) c.in-NotIn.is ∙ depth_not_in c.in-NotIn.a c.in-NotIn.list in
    let first = ap (λ (x : Expr). depth x) c.get-in-NotIn.ensures in
    let lent = ap (λ (xs : List Expr). greatest (map depth xs)) c.as_slice-in-NotIn.ensures in
    cc
