use Rattle.std.proofs.Common.{◌≡◌, ◌-◌, ◌^◌, take, length}
use Rattle.std.specs.Prelude.{min}
use Rattle.tuple_codec.specs.RowBytes.{row_bytes}
use Rattle.tuple_codec.proofs.sizes.row_size.Given as goal

abbrev pub invariant-loop-cell : goal.invariant-loop-cell
invariant-loop-cell l = l.size ≡ min (length (row_bytes (take l.cell-index l.cells))) (2 ^ 64 - 1)
