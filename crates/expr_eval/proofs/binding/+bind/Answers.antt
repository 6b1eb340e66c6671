use Rattle.std.proofs.Common.{◌∙◌, refl, ap, map, rules, Ok, Err}
use Rattle.sql_values.specs.Kinds.{product_kind}
use Rattle.sql_ast.proofs.ListNodes.{fold_and, fold_factors, fold_in, fold_not_in, fold_or, fold_terms}
use Rattle.expr_eval.specs.Binding.{and_node, and_then, bound, bound_chain, bound_in, bound_not, bound_sum, chain_kind, extended, factors_node, lengthened, logic_kind, longer_sum, opened_chain, opened_sum, or_node, step, terms_node, two}
use Rattle.expr_eval.proofs.BindLemmas.{err_through, from_first, gives_along, handed, named, parts_are, qualified, refused}
use Rattle.expr_eval.proofs.FoldLemmas.{one_more}
use Rattle.expr_eval.proofs.binding.+bind.Goals as goal

pub bind-returns-in-Or : goal.bind-returns-in-Or
bind-returns-in-Or t c = handed (λ o ys. and_then (and_then o (bound_chain logic_kind (map (bound c.args.scope.now) ys))) or_node) c.args.scope.now _ c.in-Or.first c.get.result.now c.in-Or.rest c.as_slice.result.now c.disjunction.result
    (ap (λ y. bound c.args.scope.now y) c.in-Or.is ∙ fold_or (step c.args.scope.now) c.in-Or.first c.in-Or.rest) c.get.ensures c.as_slice.ensures c.disjunction.ensures

pub bind-returns-in-And : goal.bind-returns-in-And
bind-returns-in-And t c = handed (λ o ys. and_then (and_then o (bound_chain logic_kind (map (bound c.args.scope.now) ys))) and_node) c.args.scope.now _ c.in-And.first c.get-in-And.result.now c.in-And.rest c.as_slice-in-And.result.now c.conjunction.result
    (ap (λ y. bound c.args.scope.now y) c.in-And.is ∙ fold_and (step c.args.scope.now) c.in-And.first c.in-And.rest) c.get-in-And.ensures c.as_slice-in-And.ensures c.conjunction.ensures

pub bind-returns-in-Factors : goal.bind-returns-in-Factors
bind-returns-in-Factors t c = handed (λ o ys. and_then (and_then o (bound_chain product_kind (map (bound c.args.scope.now) ys))) factors_node) c.args.scope.now _ c.in-Factors.first c.get-in-Factors.result.now c.in-Factors.rest c.as_slice-in-Factors.result.now c.product.result
    (ap (λ y. bound c.args.scope.now y) c.in-Factors.is ∙ fold_factors (step c.args.scope.now) c.in-Factors.first c.in-Factors.rest) c.get-in-Factors.ensures c.as_slice-in-Factors.ensures c.product.ensures

pub bind-returns-in-Terms : goal.bind-returns-in-Terms
bind-returns-in-Terms t c = handed (λ o ys. and_then (and_then o (bound_sum (map (λ x. (x.0, bound c.args.scope.now x.1)) ys))) terms_node) c.args.scope.now _ c.in-Terms.first c.get-in-Terms.result.now c.in-Terms.rest c.as_slice-in-Terms.result.now c.total.result
    (ap (λ y. bound c.args.scope.now y) c.in-Terms.is ∙ fold_terms (step c.args.scope.now) c.in-Terms.first c.in-Terms.rest) c.get-in-Terms.ensures c.as_slice-in-Terms.ensures c.total.ensures

pub bind-returns-in-In : goal.bind-returns-in-In
bind-returns-in-In t c = handed (λ o ys. and_then o (bound_in (map (bound c.args.scope.now) ys))) c.args.scope.now _ c.in-In.value c.get-in-In.result.now c.in-In.elements c.as_slice-in-In.result.now c.listed.result
    (ap (λ y. bound c.args.scope.now y) c.in-In.is ∙ fold_in (step c.args.scope.now) c.in-In.value c.in-In.elements) c.get-in-In.ensures c.as_slice-in-In.ensures c.listed.ensures

pub bind-returns-in_ok-listed-in-NotIn : goal.bind-returns-in_ok-listed-in-NotIn
bind-returns-in_ok-listed-in-NotIn t c = gives_along c.bound_not-in-NotIn.result _ _ (
    parts_are (λ o ys. and_then (and_then o (bound_in (map (bound c.args.scope.now) ys))) bound_not) c.args.scope.now (bound c.args.scope.now c.args.expr.now) c.in-NotIn.value c.get-in-NotIn.result.now c.in-NotIn.elements c.as_slice-in-NotIn.result.now
    (ap (λ y. bound c.args.scope.now y) c.in-NotIn.is ∙ fold_not_in (step c.args.scope.now) c.in-NotIn.value c.in-NotIn.elements) c.get-in-NotIn.ensures c.as_slice-in-NotIn.ensures
    ∙ ap (λ o. and_then o bound_not) c.in_ok-listed-in-NotIn.ensures)
    c.bound_not-in-NotIn.ensures

pub bind-returns-in-Name : goal.bind-returns-in-Name
bind-returns-in-Name t c = named c.args.scope.now c.args.expr.now c.in-Name.name c.as_slice-in-Name.result.now c.place_named.result _
    c.in-Name.is c.as_slice-in-Name.ensures c.place_named.ensures c.bound_column.ensures

pub bind-returns-in-Qualified : goal.bind-returns-in-Qualified
bind-returns-in-Qualified t c = qualified c.args.scope.now c.args.expr.now c.in-Qualified.source c.in-Qualified.name c.as_slice-in-Qualified.result.now
    c.as_slice-in-Qualified-2.result.now c.place_qualified-place.result _
    c.in-Qualified.is c.as_slice-in-Qualified.ensures c.as_slice-in-Qualified-2.ensures c.place_qualified-place.ensures c.bound_column-in-Qualified.ensures

pub chain-returns-in_err-operand : goal.chain-returns-in_err-operand
chain-returns-in_err-operand t c =
    let h = gives_along (Err c.in_err-operand.field-0.0) _ _ (from_first (two (extended (chain_kind c.args.meeting))) (bound c.args.scope.now c.args.first.now) opened_chain (map (bound c.args.scope.now) c.args.rest.now) (λ n y. refl))
    (refused (two (extended (chain_kind c.args.meeting))) (bound c.args.scope.now) (and_then (bound c.args.scope.now c.args.first.now) (λ x. Ok (opened_chain x))) c.args.rest.now c.loop-operand.operand-index c.operand-item.result (Ok c.loop-operand.chain) c.in_err-operand.field-0.0 (λ n y. refl)
    c.loop-operand-test.true c.operand-item.is c.loop-operand.invariant (err_through (bound c.args.scope.now c.operand-item.result) (extended (chain_kind c.args.meeting) c.loop-operand.chain) c.in_err-operand.field-0.0 _ refl c.in_err-operand.ensures)) in search rules

pub chain-returns-in_err-chain-2 : goal.chain-returns-in_err-chain-2
chain-returns-in_err-chain-2 t c =
    let h = gives_along (Err c.in_err-chain-2.field-0.0) _ _ (from_first (two (extended (chain_kind c.args.meeting))) (bound c.args.scope.now c.args.first.now) opened_chain (map (bound c.args.scope.now) c.args.rest.now) (λ n y. refl))
    (refused (two (extended (chain_kind c.args.meeting))) (bound c.args.scope.now) (and_then (bound c.args.scope.now c.args.first.now) (λ x. Ok (opened_chain x))) c.args.rest.now c.loop-operand.operand-index c.operand-item.result (Ok c.loop-operand.chain) c.in_err-chain-2.field-0.0 (λ n y. refl)
    c.loop-operand-test.true c.operand-item.is c.loop-operand.invariant (gives_along (Err c.in_err-chain-2.field-0.0) _ _ (ap (λ o. and_then o (extended (chain_kind c.args.meeting) c.loop-operand.chain)) c.in_ok-operand.ensures) c.in_err-chain-2.ensures)) in search rules

pub chain-loop-operand-preserved : goal.chain-loop-operand-preserved
chain-loop-operand-preserved t c =
    one_more (two (extended (chain_kind c.args.meeting))) (bound c.args.scope.now) (and_then (bound c.args.scope.now c.args.first.now) (λ x. Ok (opened_chain x))) c.args.rest.now c.loop-operand.operand-index c.operand-item.result (Ok c.loop-operand.chain) (Ok c.in_ok-chain-2.chain)
    c.loop-operand-test.true c.operand-item.is c.loop-operand.invariant (ap (λ o. and_then o (extended (chain_kind c.args.meeting) c.loop-operand.chain)) c.in_ok-operand.ensures ∙ c.in_ok-chain-2.ensures)

pub sum-returns-in_err-operand : goal.sum-returns-in_err-operand
sum-returns-in_err-operand t c =
    let h = gives_along (Err c.in_err-operand.field-0.0) _ _ (from_first lengthened (bound c.args.scope.now c.args.first.now) opened_sum (map (λ x. (x.0, bound c.args.scope.now x.1)) c.args.rest.now) (λ n y. refl))
    (refused lengthened (λ x. (x.0, bound c.args.scope.now x.1)) (and_then (bound c.args.scope.now c.args.first.now) (λ x. Ok (opened_sum x))) c.args.rest.now c.loop-term.term-index c.loop-term-item.result (Ok c.loop-term.sum) c.in_err-operand.field-0.0 (λ n y. refl)
    c.loop-term-test.true c.loop-term-item.is c.loop-term.invariant (err_through (bound c.args.scope.now c.loop-term-item.result.1) (longer_sum c.loop-term-item.result.0 c.loop-term.sum) c.in_err-operand.field-0.0 _ refl c.in_err-operand.ensures)) in search rules

pub sum-returns-in_err-sum-2 : goal.sum-returns-in_err-sum-2
sum-returns-in_err-sum-2 t c =
    let h = gives_along (Err c.in_err-sum-2.field-0.0) _ _ (from_first lengthened (bound c.args.scope.now c.args.first.now) opened_sum (map (λ x. (x.0, bound c.args.scope.now x.1)) c.args.rest.now) (λ n y. refl))
    (refused lengthened (λ x. (x.0, bound c.args.scope.now x.1)) (and_then (bound c.args.scope.now c.args.first.now) (λ x. Ok (opened_sum x))) c.args.rest.now c.loop-term.term-index c.loop-term-item.result (Ok c.loop-term.sum) c.in_err-sum-2.field-0.0 (λ n y. refl)
    c.loop-term-test.true c.loop-term-item.is c.loop-term.invariant (gives_along (Err c.in_err-sum-2.field-0.0) _ _ (ap (λ o. and_then o (longer_sum c.loop-term-item.result.0 c.loop-term.sum)) c.in_ok-operand.ensures) c.in_err-sum-2.ensures)) in search rules

pub sum-loop-term-preserved : goal.sum-loop-term-preserved
sum-loop-term-preserved t c =
    one_more lengthened (λ x. (x.0, bound c.args.scope.now x.1)) (and_then (bound c.args.scope.now c.args.first.now) (λ x. Ok (opened_sum x))) c.args.rest.now c.loop-term.term-index c.loop-term-item.result (Ok c.loop-term.sum) (Ok c.in_ok-sum-2.sum)
    c.loop-term-test.true c.loop-term-item.is c.loop-term.invariant (ap (λ o. and_then o (longer_sum c.loop-term-item.result.0 c.loop-term.sum)) c.in_ok-operand.ensures ∙ c.in_ok-sum-2.ensures)
