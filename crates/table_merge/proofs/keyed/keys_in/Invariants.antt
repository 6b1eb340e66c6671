use Rattle.std.proofs.Common.{◌≡◌, take}
use Rattle.table_merge.specs.Walking.{keys_in}
use Rattle.table_merge.proofs.keyed.keys_in.Given as goal

abbrev pub invariant-loop-row : goal.invariant-loop-row
invariant-loop-row l = l.keys.items ≡ keys_in (take l.row-index l.rows)
