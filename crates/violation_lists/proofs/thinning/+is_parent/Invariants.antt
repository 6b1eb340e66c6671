use Rattle.std.proofs.Common.{length}
use Rattle.violation_lists.proofs.thinning.+is_parent.Given as goal

abbrev pub decreases-is_parent : goal.decreases-is_parent
decreases-is_parent l = length l.tables.now
