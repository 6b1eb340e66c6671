use Rattle.std.proofs.Common.{subst}
use Rattle.std.specs.List.{All}
use Rattle.std.proofs.lemmas.List.{take_all}
use Rattle.std.proofs.lemmas.List.Elements.{All-more}
use Rattle.plain_sql.specs.Passing.{IsCalm}
use Rattle.sql_select.proofs.steady.are_settled.Goals as goal

pub loop-operand-preserved : goal.loop-operand-preserved
loop-operand-preserved c =
    All-more IsCalm c.args.operands.now c.loop-operand.operand-index c.operand-item.result c.loop-operand-test.true c.loop-operand.invariant (subst IsCalm c.operand-item.is (c.is_settled.ensures c.if-not-is_settled.false))

pub returns : goal.returns
returns c = λ settled. subst (All IsCalm) (take_all c.loop-operand.operand-index c.args.operands.now c.loop-operand-test.false) c.loop-operand.invariant
