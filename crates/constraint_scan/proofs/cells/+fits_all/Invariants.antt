use Rattle.std.proofs.Common.{length}
use Rattle.constraint_scan.proofs.cells.+fits_all.Given as goal

abbrev pub decreases-fits_all : goal.decreases-fits_all
decreases-fits_all l = length l.types.now
