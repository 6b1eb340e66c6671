use Rattle.std.proofs.Common.{◌≡◌, ◌+◌, ◌++◌, length}
use Rattle.tuple_codec.specs.Rows.{key_cmp}
use Rattle.schema_merge.specs.KeyByKey.{keys_with}
use Rattle.table_merge.proofs.keyed.keys_with.Given as goal

abbrev pub invariant-heads : goal.invariant-heads
invariant-heads l = l.both.items ++ keys_with key_cmp l.left l.right ≡ keys_with key_cmp l.keys l.others

abbrev pub decreases-heads : goal.decreases-heads
decreases-heads l = length l.left + length l.right
