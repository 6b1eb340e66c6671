use Rattle.std.proofs.Common.{length}
use Rattle.plain_writes.proofs.tables.+table_in.Given as goal

abbrev pub decreases-table_in : goal.decreases-table_in
decreases-table_in l = length l.database.now
