use Rattle.std.proofs.Common.{length}
use Rattle.constraint_scan.proofs.judging.+is_constrained_beside.Given as goal

abbrev pub decreases-is_constrained_beside : goal.decreases-is_constrained_beside
decreases-is_constrained_beside g l = length l.entries.now
