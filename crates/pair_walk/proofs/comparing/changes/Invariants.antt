use Rattle.std.proofs.Common.{◌+◌}
use Rattle.pair_walk.specs.Turns.{load_of}
use Rattle.pair_walk.proofs.Comparisons.{IsGoing}
use Rattle.pair_walk.proofs.comparing.changes.Given as goal

abbrev pub invariant-turns : goal.invariant-turns
invariant-turns g l = IsGoing g.D.Digester.address l.fn.draft.chunks l.fn.old.0 l.fn.new.0 l.fn.reads.0 l.comparison

abbrev pub decreases-turns : goal.decreases-turns
decreases-turns g l = load_of l.comparison.old_walk + load_of l.comparison.new_walk
