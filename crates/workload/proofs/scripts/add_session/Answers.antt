use Rattle.std.proofs.Common.{rules}
use Rattle.workload.specs.Workload.{steps_of}
use Rattle.workload.proofs.scripts.add_session.Goals as goal

pub returns : goal.returns
unfolding steps_of
returns c = search rules
