use Rattle.std.proofs.Common.{arith}
use Rattle.std.proofs.lemmas.Grind.{common_steps}
use Rattle.wire_io.proofs.MovesLemmas.{appends_further}
use Rattle.wire_io.proofs.moving.write_whole.Goals as goal

pub turns-preserved : goal.turns-preserved
turns-preserved g c = record {
  within_bytes = grind arith;
  appends = appends_further _ _ _ c.turns.at c.in_ok-at.field-0 _ _ c.turns.invariant.appends c.in_ok-at.ensures.bytes (grind (arith, common_steps));
  later = grind arith;
  within = grind arith;
  room = grind arith;
  calm = grind arith;
}
