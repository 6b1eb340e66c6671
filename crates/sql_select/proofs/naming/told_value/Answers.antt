use Rattle.std.proofs.Common.{◌≡◌, ◌∙◌, sym, ap, subst, Some}
use Rattle.std.proofs.lemmas.Result.{IfOk-weaker}
use Rattle.expr_eval.specs.declared.bound.BoundNode.TheVariants as n
use Rattle.sql_select.specs.Parts.{Tells}
use Rattle.sql_select.proofs.naming.told_value.Goals as goal

pub returns-in-Compare : goal.returns-in-Compare
returns-in-Compare c = λ value.
    IfOk-weaker c.compared_value.result (λ found. found ≡ Some value → Tells c.args.kind.now c.args.place c.args.wanted value (n.Compare c.get.result.now c.in-Compare.comparison c.get-in-Compare.result.now))
    (λ found. found ≡ Some value → Tells c.args.kind.now c.args.place c.args.wanted value c.args.part.now)
    (λ found f e. subst (λ part. Tells c.args.kind.now c.args.place c.args.wanted value part)
    (ap (λ x. n.Compare x c.in-Compare.comparison c.get-in-Compare.result.now) c.get.ensures ∙ ap (λ x. n.Compare c.in-Compare.a c.in-Compare.comparison x) c.get-in-Compare.ensures ∙ sym c.in-Compare.is) (f e))
    (c.compared_value.ensures value)

pub returns-in-Between : goal.returns-in-Between
returns-in-Between c = λ value.
    let a = c.in-Between.a in
    let low = c.in-Between.low in
    let high = c.in-Between.high in
    IfOk-weaker c.end_value.result (λ found. found ≡ Some value → Tells c.args.kind.now c.args.place c.args.wanted value (n.Between c.get-in-Between.result.now c.get-in-Between-2.result.now c.get-in-Between-3.result.now))
    (λ found. found ≡ Some value → Tells c.args.kind.now c.args.place c.args.wanted value c.args.part.now)
    (λ found f e. subst (λ part. Tells c.args.kind.now c.args.place c.args.wanted value part)
    (ap (λ x. n.Between x c.get-in-Between-2.result.now c.get-in-Between-3.result.now) c.get-in-Between.ensures ∙ ap (λ x. n.Between a x c.get-in-Between-3.result.now) c.get-in-Between-2.ensures
    ∙ ap (λ x. n.Between a low x) c.get-in-Between-3.ensures ∙ sym c.in-Between.is) (f e))
    (c.end_value.ensures value)
