use Rattle.std.proofs.Common.{length}
use Rattle.constraint_scan.proofs.judging.+is_any_constrained.Given as goal

abbrev pub decreases-is_any_constrained : goal.decreases-is_any_constrained
decreases-is_any_constrained g l = length l.entries.now
