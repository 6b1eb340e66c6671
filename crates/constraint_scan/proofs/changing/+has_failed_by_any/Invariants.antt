use Rattle.std.proofs.Common.{length}
use Rattle.constraint_scan.proofs.changing.+has_failed_by_any.Given as goal

abbrev pub decreases-has_failed_by_any : goal.decreases-has_failed_by_any
decreases-has_failed_by_any l = length l.all.now
