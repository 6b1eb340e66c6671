use Rattle.std.proofs.Common.{◌≡◌, ◌≤◌, ◌+◌, ◌-◌, length, drop}
use Rattle.prolly_tree.specs.Meets.{count_up_to}
use Rattle.prolly_tree.proofs.meets.count_up_to.Given as goal

abbrev pub invariant-edits : goal.invariant-edits
invariant-edits l = (l.count ≤ length l.edits) × (count_up_to l.key l.edits ≡ l.count + count_up_to l.key (drop l.count l.edits))

abbrev pub decreases-edits : goal.decreases-edits
decreases-edits l = length l.edits - l.count
