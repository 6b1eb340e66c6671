use Rattle.std.proofs.Common.{◌≡◌}
use Rattle.workload.specs.Workload.{each, with_update}
use Rattle.workload.proofs.draws.Drawn.update_rows.Given as goal

abbrev pub invariant-loop-turn : goal.invariant-loop-turn
invariant-loop-turn l = l.self ≡ each l._turn (λ turn. with_update l.first) l.initial.self
