use Rattle.std.proofs.Common.{length}
use Rattle.root_merge.proofs.settling.+left_in_tables.Given as goal

abbrev pub decreases-left_in_tables : goal.decreases-left_in_tables
decreases-left_in_tables g l = length l.tables.now
