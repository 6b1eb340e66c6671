use Rattle.std.proofs.Common.{length}
use Rattle.constraint_scan.proofs.changing.+some_deserts.Given as goal

abbrev pub decreases-some_deserts : goal.decreases-some_deserts
decreases-some_deserts g l = length l.tables.now
