use Rattle.std.proofs.Common.{◌≤◌, ◌-◌, length}
use Rattle.prolly_tree.specs.Lists.{place_of}
use Rattle.prolly_tree.proofs.nodes.place_of.Given as goal

abbrev pub invariant-halves : goal.invariant-halves
invariant-halves l = (l.low ≤ place_of l.key l.node.items) × (place_of l.key l.node.items ≤ l.high) × (l.high ≤ length l.node.items)

abbrev pub decreases-halves : goal.decreases-halves
decreases-halves l = l.high - l.low
