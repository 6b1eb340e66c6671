use Rattle.std.proofs.Common.{length}
use Rattle.merge_procs.proofs.takings.+take_flawed.Given as goal

abbrev pub decreases-take_flawed : goal.decreases-take_flawed
decreases-take_flawed g l = length l.entries.now
