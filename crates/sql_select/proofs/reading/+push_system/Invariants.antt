use Rattle.std.proofs.Common.{length}
use Rattle.sql_select.proofs.reading.+push_system.Given as goal

abbrev pub decreases-push_system : goal.decreases-push_system
decreases-push_system l = length l.system.now
