use Rattle.std.proofs.Common.{length}
use Rattle.violation_lists.proofs.reading.+push_tables.Given as goal

abbrev pub decreases-push_tables : goal.decreases-push_tables
decreases-push_tables g l = length l.entries.now
