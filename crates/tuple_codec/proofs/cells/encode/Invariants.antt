use Rattle.std.proofs.Common.{◌≡◌, take}
use Rattle.tuple_codec.specs.Cells.{spelling}
use Rattle.tuple_codec.proofs.cells.encode.Given as goal

abbrev pub invariant-loop-value : goal.invariant-loop-value
invariant-loop-value l = l.out.items ≡ spelling l.form (take l.value-index l.row)
