use Rattle.workload.proofs.WorkloadLemmas.{none_yet, one_more}
use Rattle.std.proofs.Common.{refl}
use Rattle.workload.specs.Workload.{with_update}
use Rattle.workload.proofs.draws.Drawn.update_rows.Goals as goal

pub loop-turn-init : goal.loop-turn-init
loop-turn-init c = none_yet (λ turn. with_update c.args.first) _ _ refl

pub loop-turn-preserved : goal.loop-turn-preserved
loop-turn-preserved c = one_more c.loop-turn._turn (λ turn. with_update c.args.first) _ _ _ c.loop-turn.invariant c.in_ok-update.ensures
