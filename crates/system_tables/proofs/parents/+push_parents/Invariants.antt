use Rattle.std.proofs.Common.{length}
use Rattle.system_tables.proofs.parents.+push_parents.Given as goal

abbrev pub decreases-push_parents : goal.decreases-push_parents
decreases-push_parents l = length l.parents.now
