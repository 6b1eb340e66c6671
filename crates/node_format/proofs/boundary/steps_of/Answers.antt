use Rattle.std.proofs.Common.{arith}
use Rattle.node_format.proofs.EndLemmas.{kept}
use Rattle.node_format.proofs.boundary.steps_of.Goals as goal

pub returns-then-size-ge512 : goal.returns-then-size-ge512
returns-then-size-ge512 c address level key stayed = kept address level c.args.size c.args.count key (omega arith) (omega arith) stayed
