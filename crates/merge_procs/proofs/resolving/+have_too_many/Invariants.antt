use Rattle.std.proofs.Common.{length}
use Rattle.merge_procs.proofs.resolving.+have_too_many.Given as goal

abbrev pub decreases-have_too_many : goal.decreases-have_too_many
decreases-have_too_many g l = length l.tables.now
