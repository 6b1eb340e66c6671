use Rattle.std.proofs.Common.{◌≡◌, ◌∙◌, sym, ap, true, Some}
use mir.Syntax.{w64}
use mir.Val.{to_z, of_z}
use Rattle.std.proofs.lemmas.Result.{IfOk-weaker}
use Rattle.tuple_codec.specs.Rows.{fits}
use Rattle.tuple_codec.specs.declared.values.Value.TheVariants as cell
use Rattle.sql_values.specs.Worths.{worth_of}
use Rattle.expr_eval.specs.declared.bound.BoundNode.TheVariants as n
use Rattle.sql_select.specs.Parts.{IsLiteral, is_exact}
use Rattle.sql_select.proofs.SteadyLemmas.{turned_back, turned_whole, turned_worth}
use Rattle.sql_select.proofs.naming.turned_literal.Goals as goal

pub returns-in-Int : goal.returns-in-Int
returns-in-Int c = λ value.
    let own = c.in-Constant.own in
    let number = c.in-Int.number in
    let whole = turned_whole own c.in-Constant.value c.of.result c.in-Some.turned c.negate.result number c.of.ensures c.negate.ensures c.in-Some.is c.in-Int.is in
    let sent = to_z w64 (of_z w64 number) in
    let back : sent ≡ number = turned_back (worth_of own c.in-Constant.value) number whole in
    IfOk-weaker c.exact_value.result (λ found. found ≡ Some value → (value ≡ cell.Int sent) × (fits c.args.kind.now value ≡ true) × (is_exact value ≡ true))
    (λ found. found ≡ Some value → IsLiteral c.args.kind.now value (n.Negate c.args.operand.now))
    (λ found f e. let same = f e in
    (own, λ row. turned_worth row own c.in-Constant.value c.args.operand.now c.in-Constant.is ∙ whole ∙ ap (λ v. Some (worth_of own v)) (sym (same.0 ∙ ap cell.Int back)), same.1, same.2))
    (c.exact_value.ensures value)
