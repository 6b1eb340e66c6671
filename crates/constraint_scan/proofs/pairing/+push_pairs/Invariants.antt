use Rattle.std.proofs.Common.{length}
use Rattle.constraint_scan.proofs.pairing.+push_pairs.Given as goal

abbrev pub decreases-push_pairs : goal.decreases-push_pairs
decreases-push_pairs g l = length l.olds.now
