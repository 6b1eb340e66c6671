use Rattle.std.proofs.Common.{◌≡◌, ◌∙◌, sym, ap, subst, true, Some}
use Rattle.std.proofs.lemmas.Result.{IfOk-weaker}
use Rattle.expr_eval.specs.declared.bound.BoundNode.TheVariants as n
use Rattle.expr_eval.specs.Valuing.{worth}
use Rattle.expr_eval.proofs.WorthNodes.{worth_constant}
use Rattle.tuple_codec.specs.Rows.{fits}
use Rattle.sql_select.specs.Parts.{IsLiteral, is_exact}
use Rattle.sql_select.proofs.naming.literal_value.Goals as goal

pub returns-in-Constant : goal.returns-in-Constant
returns-in-Constant c = λ value.
    IfOk-weaker c.exact_value.result (λ found. found ≡ Some value → (value ≡ c.in-Constant.value) × (fits c.args.kind.now value ≡ true) × (is_exact value ≡ true))
    (λ found. found ≡ Some value → IsLiteral c.args.kind.now value c.args.part.now)
    (λ found f e. let same = f e in (c.in-Constant.field-0, λ row. ap (worth row) (c.in-Constant.is ∙ ap (λ v. n.Constant c.in-Constant.field-0 v) (sym same.0)) ∙ worth_constant row c.in-Constant.field-0 value, same.1, same.2))
    (c.exact_value.ensures value)

pub returns-in-Negate : goal.returns-in-Negate
returns-in-Negate c = λ value.
    IfOk-weaker c.turned_literal.result (λ found. found ≡ Some value → IsLiteral c.args.kind.now value (n.Negate c.get.result.now))
    (λ found. found ≡ Some value → IsLiteral c.args.kind.now value c.args.part.now)
    (λ found f e. subst (IsLiteral c.args.kind.now value) (ap (λ a. n.Negate a) c.get.ensures ∙ sym c.in-Negate.is) (f e))
    (c.turned_literal.ensures value)
