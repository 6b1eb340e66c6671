use Rattle.std.proofs.Common.{ap}
use Rattle.workload.proofs.WorkloadLemmas.{drawn_there, next_there}
use Rattle.workload.specs.declared.draws.Drawn.{Drawn}
use Rattle.workload.proofs.draws.Drawn.draw.Goals as goal

pub returns-clause-so_far : goal.returns-clause-so_far
returns-clause-so_far c = ap (λ x. let s : Drawn = record { steps = c.args.self.now.steps; x = x } in s) (next_there c.args.self.now.x)

pub returns-clause-number : goal.returns-clause-number
returns-clause-number c = drawn_there _ _ (next_there c.args.self.now.x)
