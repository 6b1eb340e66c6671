use Rattle.std.proofs.Common.{length}
use Rattle.constraint_scan.proofs.changing.+some_repeated.Given as goal

abbrev pub decreases-some_repeated : goal.decreases-some_repeated
decreases-some_repeated g l = length l.tables.now
