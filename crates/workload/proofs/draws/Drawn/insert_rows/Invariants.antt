use Rattle.std.proofs.Common.{◌≡◌, ◌+◌}
use Rattle.workload.specs.Workload.{each, with_insert}
use Rattle.workload.proofs.draws.Drawn.insert_rows.Given as goal

abbrev pub invariant-loop-row : goal.invariant-loop-row
invariant-loop-row l = l.self ≡ each l.row (λ row. with_insert (l.first + row)) l.initial.self
