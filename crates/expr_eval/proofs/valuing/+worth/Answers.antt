use Rattle.std.proofs.Common.{◌∙◌, sym, refl, ap, map, false, None, Some}
use Rattle.std.specs.Option.{option_map}
use Rattle.sql_values.specs.Logic.{or3}
use Rattle.sql_values.specs.Numbers.{times}
use Rattle.sql_values.specs.Views.{seen}
use Rattle.sql_values.specs.Worths.{of_truth}
use Rattle.expr_eval.specs.Valuing.{added, among, chained, conjunction, counted, disjunction, joined, matched, one, total, two, worth}
use Rattle.expr_eval.proofs.FoldLemmas.{one_more, stopped}
use Rattle.expr_eval.proofs.ValueLemmas.{both, first_gone, handed, known, last_gone, unknown}
use Rattle.expr_eval.proofs.WorthNodes.{worth_and, worth_factors, worth_or, worth_terms}
use Rattle.expr_eval.proofs.valuing.+worth.Goals as goal

pub among-returns-in_err-as_ref : goal.among-returns-in_err-as_ref
among-returns-in_err-as_ref t c = ap (λ o. option_map seen o) c.from_residual-in_err-as_ref.ensures ∙ ap (λ o. option_map of_truth o) (sym (
    stopped (two (matched (seen c.in_ok-value.value.now))) (worth c.args.row.now) (Some (Some false)) c.args.elements.now c.loop-element.element-index c.element-item.result
    (Some c.loop-element.found) None (λ y. refl) c.loop-element-test.true c.element-item.is c.loop-element.invariant
    (ap (λ w. two (matched (seen c.in_ok-value.value.now)) (Some c.loop-element.found) w) (unknown c.worth-element.result _ c.worth-element.ensures c.in_err-as_ref.ensures.value))))
    ∙ ap (λ w. one (among (map (worth c.args.row.now) c.args.elements.now)) w) (sym (known c.worth-value.result _ c.in_ok-value.value.now c.worth-value.ensures c.in_ok-value.ensures.value))

pub among-loop-element-preserved : goal.among-loop-element-preserved
among-loop-element-preserved t c =
    one_more (two (matched (seen c.in_ok-value.value.now))) (worth c.args.row.now) (Some (Some false)) c.args.elements.now c.loop-element.element-index c.element-item.result
    (Some c.loop-element.found) (Some c.or-found.result) c.loop-element-test.true c.element-item.is c.loop-element.invariant
    (ap (λ w. two (matched (seen c.in_ok-value.value.now)) (Some c.loop-element.found) w) (known c.worth-element.result _ c.in_ok-as_ref.field-0.now c.worth-element.ensures c.in_ok-as_ref.ensures.value)
    ∙ ap (λ f. Some f) (sym (c.or-found.ensures ∙ ap (λ m. or3 c.loop-element.found m) c.compared.ensures)))

pub chained-returns-in_err-as_ref : goal.chained-returns-in_err-as_ref
chained-returns-in_err-as_ref t c = ap (λ o. option_map seen o) c.from_residual.ensures ∙ sym (
    stopped (two (joined c.args.operation)) (worth c.args.row.now) (worth c.args.row.now c.args.first.now) c.args.rest.now c.loop-operand.operand-index c.operand-item.result
    (option_map seen c.loop-operand.so_far) None (λ y. refl) c.loop-operand-test.true c.operand-item.is c.loop-operand.invariant
    (first_gone (joined c.args.operation) c.loop-operand.so_far _ c.in_err-as_ref.ensures.value))

pub chained-returns-in_err-as_ref-2 : goal.chained-returns-in_err-as_ref-2
chained-returns-in_err-as_ref-2 t c = ap (λ o. option_map seen o) c.from_residual-in_err-as_ref-2.ensures ∙ sym (
    stopped (two (joined c.args.operation)) (worth c.args.row.now) (worth c.args.row.now c.args.first.now) c.args.rest.now c.loop-operand.operand-index c.operand-item.result
    (option_map seen c.loop-operand.so_far) None (λ y. refl) c.loop-operand-test.true c.operand-item.is c.loop-operand.invariant
    (last_gone (joined c.args.operation) c.loop-operand.so_far c.worth.result _ c.in_ok-as_ref.field-0.now c.in_ok-as_ref.ensures.value c.worth.ensures c.in_err-as_ref-2.ensures.value))

pub chained-loop-operand-preserved : goal.chained-loop-operand-preserved
chained-loop-operand-preserved t c =
    one_more (two (joined c.args.operation)) (worth c.args.row.now) (worth c.args.row.now c.args.first.now) c.args.rest.now c.loop-operand.operand-index c.operand-item.result
    (option_map seen c.loop-operand.so_far) (option_map seen c.on-so_far.result) c.loop-operand-test.true c.operand-item.is c.loop-operand.invariant
    (both (joined c.args.operation) c.loop-operand.so_far c.worth.result _ c.in_ok-as_ref.field-0.now c.in_ok-as_ref-2.field-0.now c.in_ok-as_ref.ensures.value c.worth.ensures c.in_ok-as_ref-2.ensures.value
    ∙ sym c.on-so_far.ensures)

pub total-returns-in_err-as_ref : goal.total-returns-in_err-as_ref
total-returns-in_err-as_ref t c = ap (λ o. option_map seen o) c.from_residual.ensures ∙ sym (
    stopped counted (λ x. (x.0, worth c.args.row.now x.1)) (worth c.args.row.now c.args.first.now) c.args.rest.now c.loop-term.term-index c.loop-term-item.result
    (option_map seen c.loop-term.so_far) None (λ y. refl) c.loop-term-test.true c.loop-term-item.is c.loop-term.invariant
    (first_gone (added c.loop-term-item.result.0) c.loop-term.so_far _ c.in_err-as_ref.ensures.value))

pub total-returns-in_err-as_ref-2 : goal.total-returns-in_err-as_ref-2
total-returns-in_err-as_ref-2 t c = ap (λ o. option_map seen o) c.from_residual-in_err-as_ref-2.ensures ∙ sym (
    stopped counted (λ x. (x.0, worth c.args.row.now x.1)) (worth c.args.row.now c.args.first.now) c.args.rest.now c.loop-term.term-index c.loop-term-item.result
    (option_map seen c.loop-term.so_far) None (λ y. refl) c.loop-term-test.true c.loop-term-item.is c.loop-term.invariant
    (last_gone (added c.loop-term-item.result.0) c.loop-term.so_far c.worth.result _ c.in_ok-as_ref.field-0.now c.in_ok-as_ref.ensures.value c.worth.ensures c.in_err-as_ref-2.ensures.value))

pub total-loop-term-preserved : goal.total-loop-term-preserved
total-loop-term-preserved t c =
    one_more counted (λ x. (x.0, worth c.args.row.now x.1)) (worth c.args.row.now c.args.first.now) c.args.rest.now c.loop-term.term-index c.loop-term-item.result
    (option_map seen c.loop-term.so_far) (option_map seen c.added-so_far.result) c.loop-term-test.true c.loop-term-item.is c.loop-term.invariant
    (both (added c.loop-term-item.result.0) c.loop-term.so_far c.worth.result _ c.in_ok-as_ref.field-0.now c.in_ok-as_ref-2.field-0.now c.in_ok-as_ref.ensures.value c.worth.ensures c.in_ok-as_ref-2.ensures.value
    ∙ sym c.added-so_far.ensures)

pub worth-returns-in-Or : goal.worth-returns-in-Or
worth-returns-in-Or t c = handed (λ w ys. chained disjunction w (map (worth c.args.row.now) ys)) c.args.row.now _ c.in-Or.first c.get.result.now c.in-Or.rest c.as_slice.result.now (option_map seen c.chained.result)
    (ap (λ n. worth c.args.row.now n) c.in-Or.is ∙ worth_or c.args.row.now c.in-Or.first c.in-Or.rest) c.get.ensures c.as_slice.ensures c.chained.ensures

pub worth-returns-in-And : goal.worth-returns-in-And
worth-returns-in-And t c = handed (λ w ys. chained conjunction w (map (worth c.args.row.now) ys)) c.args.row.now _ c.in-And.first c.get-in-And.result.now c.in-And.rest c.as_slice-in-And.result.now (option_map seen c.chained-in-And.result)
    (ap (λ n. worth c.args.row.now n) c.in-And.is ∙ worth_and c.args.row.now c.in-And.first c.in-And.rest) c.get-in-And.ensures c.as_slice-in-And.ensures c.chained-in-And.ensures

pub worth-returns-in-Terms : goal.worth-returns-in-Terms
worth-returns-in-Terms t c = handed (λ w ys. total w (map (λ x. (x.0, worth c.args.row.now x.1)) ys)) c.args.row.now _ c.in-Terms.first c.get-in-Terms.result.now c.in-Terms.rest c.as_slice-in-Terms.result.now (option_map seen c.total.result)
    (ap (λ n. worth c.args.row.now n) c.in-Terms.is ∙ worth_terms c.args.row.now c.in-Terms.first c.in-Terms.rest) c.get-in-Terms.ensures c.as_slice-in-Terms.ensures c.total.ensures

pub worth-returns-in-Factors : goal.worth-returns-in-Factors
worth-returns-in-Factors t c = handed (λ w ys. chained times w (map (worth c.args.row.now) ys)) c.args.row.now _ c.in-Factors.first c.get-in-Factors.result.now c.in-Factors.rest c.as_slice-in-Factors.result.now (option_map seen c.chained-in-Factors.result)
    (ap (λ n. worth c.args.row.now n) c.in-Factors.is ∙ worth_factors c.args.row.now c.in-Factors.first c.in-Factors.rest) c.get-in-Factors.ensures c.as_slice-in-Factors.ensures c.chained-in-Factors.ensures
