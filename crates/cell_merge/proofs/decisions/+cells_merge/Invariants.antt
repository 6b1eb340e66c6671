use Rattle.std.proofs.Common.{length}
use Rattle.cell_merge.proofs.decisions.+cells_merge.Given as goal

abbrev pub decreases-cells_merge : goal.decreases-cells_merge
decreases-cells_merge l = length l.base.now
