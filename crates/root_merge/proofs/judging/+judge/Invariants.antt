use Rattle.std.proofs.Common.{length}
use Rattle.root_merge.proofs.judging.+judge.Given as goal

abbrev pub decreases-judge : goal.decreases-judge
decreases-judge g l = length l.names.now
