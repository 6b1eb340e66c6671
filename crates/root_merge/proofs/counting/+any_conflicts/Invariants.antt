use Rattle.std.proofs.Common.{length}
use Rattle.root_merge.proofs.counting.+any_conflicts.Given as goal

abbrev pub decreases-any_conflicts : goal.decreases-any_conflicts
decreases-any_conflicts g l = length l.names.now
