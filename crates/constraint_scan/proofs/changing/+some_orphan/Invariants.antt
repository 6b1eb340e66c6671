use Rattle.std.proofs.Common.{length}
use Rattle.constraint_scan.proofs.changing.+some_orphan.Given as goal

abbrev pub decreases-some_orphan : goal.decreases-some_orphan
decreases-some_orphan g l = length l.tables.now
