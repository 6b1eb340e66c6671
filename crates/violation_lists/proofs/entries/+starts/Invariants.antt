use Rattle.std.proofs.Common.{length}
use Rattle.violation_lists.proofs.entries.+starts.Given as goal

abbrev pub decreases-starts : goal.decreases-starts
decreases-starts l = length l.places.now
