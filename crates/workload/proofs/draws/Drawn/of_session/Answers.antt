use Rattle.workload.proofs.WorkloadLemmas.{none_yet, one_more}
use Rattle.std.proofs.Common.{refl, ◌∙◌, ap}
use Rattle.workload.specs.Workload.{with_batch}
use Rattle.workload.proofs.draws.Drawn.of_session.Goals as goal

pub loop-batch-init : goal.loop-batch-init
loop-batch-init c = none_yet (with_batch c.args.session) _ _ refl

pub loop-batch-preserved : goal.loop-batch-preserved
loop-batch-preserved c = one_more c.loop-batch.batch (with_batch c.args.session) _ _ _ c.loop-batch.invariant (c.in_ok-add_batch.ensures ∙ ap (λ session. with_batch session c.loop-batch.batch c.loop-batch.all) c.from.ensures)
