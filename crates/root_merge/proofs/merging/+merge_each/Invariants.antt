use Rattle.std.proofs.Common.{length}
use Rattle.root_merge.proofs.merging.+merge_each.Given as goal

abbrev pub decreases-merge_each : goal.decreases-merge_each
decreases-merge_each g l = length l.names.now
