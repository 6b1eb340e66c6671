use Rattle.std.proofs.Common.{◌≡◌, None, length}
use Rattle.table_merge.specs.Rising.{RiseFrom}
use Rattle.table_merge.specs.Walking.{found, keys_in}
use Rattle.table_merge.proofs.keyed.find.Given as goal

abbrev pub invariant-halves : goal.invariant-halves
invariant-halves l = RiseFrom None (keys_in l.left) × (found l.key l.left ≡ found l.key l.rows)

abbrev pub decreases-halves : goal.decreases-halves
decreases-halves l = length l.left
