use Rattle.std.proofs.Common.{◌∙◌, sym, ap, max, List, arith}
use Rattle.std.specs.List.{list_any}
use Rattle.sql_ast.specs.declared.expressions.Expr.{Expr}
use Rattle.sql_ast.specs.declared.expressions.Term.{Term}
use Rattle.sql_ast.proofs.expressions.Expr.TheLaws.{the_size}
use Rattle.sql_ast.proofs.ListNodes.{terms_size}
use Rattle.sql_text.specs.Features.{has}
use Rattle.sql_text.proofs.ListParts.{listed_size, has_listed, has_terms, rest_decides}
use Rattle.sql_text.proofs.features.+features.Goals as goal
use denote.Param.Weighed.{most}

pub has_feature-some_has-requires : goal.has_feature-some_has-requires
has_feature-some_has-requires t c =
    let shallow = listed_size c.args.expr.now c.in-Or.a c.in-Or.list c.in-Or.is in
    let lent = ap (λ (xs : List Expr). most the_size xs) c.as_slice-else-has_feature-5.ensures in
    omega (arith, c.decreases)

pub has_feature-some_term_has-requires : goal.has_feature-some_term_has-requires
has_feature-some_term_has-requires t c =
    let shallow = terms_size c.in-Terms.a c.in-Terms.list in
    let lent = ap (λ (xs : List (Term × Expr)). most (λ x. max 0 (max (the_size x.1) 0)) xs) c.as_slice.ensures in
    let node = ap the_size c.in-Terms.is in
    omega (arith, c.decreases)

pub has_feature-returns-else-has_feature-5 : goal.has_feature-returns-else-has_feature-5
has_feature-returns-else-has_feature-5 t c =
    c.some_has.ensures ∙ ap (λ (xs : List Expr). list_any (has c.args.feature) xs) c.as_slice-else-has_feature-5.ensures
    ∙ rest_decides c.args.feature c.in-Or.a _ _ _ c.get-in-Or.ensures c.has_feature-in-Or.ensures c.if-has_feature-5.false
    ∙ sym (has_listed c.args.feature c.args.expr.now c.in-Or.a c.in-Or.list c.in-Or.is)

pub has_feature-returns-else-has_feature-2 : goal.has_feature-returns-else-has_feature-2
has_feature-returns-else-has_feature-2 t c =
    c.some_term_has.ensures ∙ ap (λ (xs : List (Term × Expr)). list_any (λ x. has c.args.feature x.1) xs) c.as_slice.ensures
    ∙ rest_decides c.args.feature c.in-Terms.a _ _ _ c.get-in-Terms.ensures c.has_feature-in-Terms.ensures c.if-has_feature-2.false
    ∙ sym (ap (λ (x : Expr). has c.args.feature x) c.in-Terms.is ∙ has_terms c.args.feature c.in-Terms.a c.in-Terms.list)
