use Rattle.std.proofs.Common.{length}
use Rattle.constraint_scan.proofs.changing.+some_failed.Given as goal

abbrev pub decreases-some_failed : goal.decreases-some_failed
decreases-some_failed l = length l.tables.now
