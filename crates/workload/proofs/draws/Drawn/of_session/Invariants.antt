use Rattle.std.proofs.Common.{◌≡◌}
use Rattle.workload.specs.Workload.{each, with_batch}
use Rattle.workload.proofs.draws.Drawn.of_session.Given as goal

abbrev pub invariant-loop-batch : goal.invariant-loop-batch
invariant-loop-batch l = l.all ≡ each l.batch (with_batch l.session) l.initial.all
