use Rattle.std.proofs.Common.{length}
use Rattle.system_tables.proofs.counts.+push_counts.Given as goal

abbrev pub decreases-push_counts : goal.decreases-push_counts
decreases-push_counts g l = length l.tables.now
