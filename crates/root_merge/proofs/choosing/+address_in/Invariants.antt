use Rattle.std.proofs.Common.{length}
use Rattle.root_merge.proofs.choosing.+address_in.Given as goal

abbrev pub decreases-address_in : goal.decreases-address_in
decreases-address_in l = length l.tables.now
