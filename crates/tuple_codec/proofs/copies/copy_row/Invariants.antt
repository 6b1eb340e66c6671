use Rattle.std.proofs.Common.{◌≡◌, ◌++◌, drop}
use Rattle.tuple_codec.proofs.copies.copy_row.Given as goal

abbrev pub invariant-loop-value : goal.invariant-loop-value
invariant-loop-value l = l.copy ++ drop l.value-index l.row ≡ l.row
