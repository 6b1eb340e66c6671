use Rattle.std.proofs.Common.{subst}
use Rattle.std.specs.List.{All}
use Rattle.std.proofs.lemmas.List.{take_all}
use Rattle.std.proofs.lemmas.List.Elements.{All-more}
use Rattle.plain_sql.specs.Passing.{IsCalm}
use Rattle.sql_select.proofs.steady.are_steady.Goals as goal

pub loop-part-preserved : goal.loop-part-preserved
loop-part-preserved c =
    All-more IsCalm c.args.parts.now c.loop-part.part-index c.part-item.result c.loop-part-test.true c.loop-part.invariant (subst IsCalm c.part-item.is (c.is_steady.ensures c.if-not-is_steady.false))

pub returns : goal.returns
returns c = λ steady. subst (All IsCalm) (take_all c.loop-part.part-index c.args.parts.now c.loop-part-test.false) c.loop-part.invariant
