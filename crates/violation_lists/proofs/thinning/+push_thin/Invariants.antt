use Rattle.std.proofs.Common.{length}
use Rattle.violation_lists.proofs.thinning.+push_thin.Given as goal

abbrev pub decreases-push_thin : goal.decreases-push_thin
decreases-push_thin g l = length l.entries.now
