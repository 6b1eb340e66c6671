use Rattle.std.proofs.Common.{length}
use Rattle.branch_procs.proofs.opening.+any_is_open.Given as goal

abbrev pub decreases-any_is_open : goal.decreases-any_is_open
decreases-any_is_open g l = length l.tables.now
