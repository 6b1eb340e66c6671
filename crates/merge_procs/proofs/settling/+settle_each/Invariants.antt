use Rattle.std.proofs.Common.{length}
use Rattle.merge_procs.proofs.settling.+settle_each.Given as goal

abbrev pub decreases-settle_each : goal.decreases-settle_each
decreases-settle_each g l = length l.entries.now
