use Rattle.std.proofs.Common.{length}
use Rattle.violation_lists.proofs.entries.+root_for.Given as goal

abbrev pub decreases-root_for : goal.decreases-root_for
decreases-root_for l = length l.indexes.now
