use Rattle.std.proofs.Common.{◌≡◌, ◌++◌, map, drop}
use Rattle.shared_history.specs.Showing.{head_after}
use Rattle.shared_history.proofs.settling.heads_after.Given as goal

abbrev pub invariant-loop-seen : goal.invariant-loop-seen
invariant-loop-seen l = l.new.items ++ map (head_after l.branch l.change) (drop l.seen-index l.heads) ≡ map (head_after l.branch l.change) l.heads
