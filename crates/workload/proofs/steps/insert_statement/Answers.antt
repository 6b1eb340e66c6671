use Rattle.std.proofs.Common.{rules, append_assoc}
use Rattle.workload.proofs.steps.insert_statement.Goals as goal

pub returns : goal.returns
returns c = search (rules, append_assoc)
