use Rattle.std.proofs.Common.{length}
use Rattle.constraint_scan.proofs.changing.+deserts_in.Given as goal

abbrev pub decreases-deserts_in : goal.decreases-deserts_in
decreases-deserts_in g l = length l.tables.now
