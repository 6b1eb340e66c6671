use Rattle.workload.proofs.WorkloadLemmas.{none_yet, one_more}
use Rattle.std.proofs.Common.{refl, ◌+◌}
use Rattle.workload.specs.Workload.{with_insert}
use Rattle.workload.proofs.draws.Drawn.insert_rows.Goals as goal

pub loop-row-init : goal.loop-row-init
loop-row-init c = none_yet (λ row. with_insert (c.args.first + row)) _ _ refl

pub loop-row-preserved : goal.loop-row-preserved
loop-row-preserved c = one_more c.loop-row.row (λ row. with_insert (c.args.first + row)) _ _ _ c.loop-row.invariant c.in_ok-insert.ensures
