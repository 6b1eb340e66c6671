use Rattle.std.proofs.Common.{length}
use Rattle.index_keep.proofs.indexes.+edit_each.Given as goal

abbrev pub decreases-edit_each : goal.decreases-edit_each
decreases-edit_each g l = length l.indexes.now
