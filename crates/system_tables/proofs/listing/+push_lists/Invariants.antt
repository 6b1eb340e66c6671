use Rattle.std.proofs.Common.{length}
use Rattle.system_tables.proofs.listing.+push_lists.Given as goal

abbrev pub decreases-push_lists : goal.decreases-push_lists
decreases-push_lists g l = length l.tables.now
