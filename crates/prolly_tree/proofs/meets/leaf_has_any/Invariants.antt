use Rattle.std.proofs.Common.{◌≡◌, drop}
use Rattle.prolly_tree.specs.Meets.{leaf_has_any}
use Rattle.prolly_tree.proofs.meets.leaf_has_any.Given as goal

abbrev pub invariant-loop-edit : goal.invariant-loop-edit
invariant-loop-edit l = leaf_has_any l.leaf.items l.edits ≡ leaf_has_any l.leaf.items (drop l.edit-index l.edits)
