use Rattle.std.proofs.Common.{arith}
use Rattle.std.proofs.lemmas.Grind.{common_steps}
use Rattle.sql_text.proofs.Openings.{next_opening}
use Rattle.sql_text.proofs.pieces.push_opening.Goals as goal

pub loop-turn-preserved : goal.loop-turn-preserved
loop-turn-preserved c =
    let next = next_opening c.args.count c.loop-turn._turn (omega (arith, c.loop-turn-test.true)) in
    grind (arith, common_steps, next)
