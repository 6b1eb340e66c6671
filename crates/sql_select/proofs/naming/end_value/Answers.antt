use Rattle.std.proofs.Common.{◌≡◌, Some}
use Rattle.std.proofs.lemmas.Result.{IfOk-weaker}
use Rattle.expr_eval.specs.declared.bound.BoundNode.TheVariants as n
use Rattle.sql_select.specs.Parts.{IsLiteral, Tells}
use Rattle.sql_select.proofs.TellLemmas.{tells_high, tells_low}
use Rattle.sql_select.proofs.naming.end_value.Goals as goal

pub returns-then-is_column_so : goal.returns-then-is_column_so
returns-then-is_column_so c = λ value.
    let so = c.if-is_column_so.true in
    IfOk-weaker c.literal_value.result (λ found. found ≡ Some value → IsLiteral c.args.kind.now value c.args.low.now)
    (λ found. found ≡ Some value → Tells c.args.kind.now c.args.place c.args.wanted value (n.Between c.args.a.now c.args.low.now c.args.high.now))
    (λ found f e. tells_low c.args.kind.now c.args.place c.args.wanted value c.args.a.now c.args.low.now c.args.high.now (c.is_column_so.ensures.wanted so) (c.is_column_so.ensures.column so) (f e))
    (c.literal_value.ensures value)

pub returns-then-is_column_so-2 : goal.returns-then-is_column_so-2
returns-then-is_column_so-2 c = λ value.
    let so = c.if-is_column_so-2.true in
    IfOk-weaker c.literal_value-then-is_column_so-2.result (λ found. found ≡ Some value → IsLiteral c.args.kind.now value c.args.high.now)
    (λ found. found ≡ Some value → Tells c.args.kind.now c.args.place c.args.wanted value (n.Between c.args.a.now c.args.low.now c.args.high.now))
    (λ found f e. tells_high c.args.kind.now c.args.place c.args.wanted value c.args.a.now c.args.low.now c.args.high.now (c.is_column_so-else-is_column_so.ensures.wanted so) (c.is_column_so-else-is_column_so.ensures.column so) (f e))
    (c.literal_value-then-is_column_so-2.ensures value)
