use Rattle.std.proofs.Common.{length}
use Rattle.constraint_scan.proofs.cells.+compare_at.Given as goal

abbrev pub decreases-compare_at : goal.decreases-compare_at
decreases-compare_at l = length l.key.now
