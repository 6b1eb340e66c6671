use Rattle.std.proofs.Common.{length}
use Rattle.constraint_scan.proofs.changing.+deserts_by_any.Given as goal

abbrev pub decreases-deserts_by_any : goal.decreases-deserts_by_any
decreases-deserts_by_any g l = length l.keys.now
