use Rattle.std.proofs.Common.{◌≡◌, drop}
use Rattle.tuple_codec.specs.Fronts.{cells_front, after_cells}
use Rattle.tuple_codec.proofs.cells.decode.Given as goal

abbrev pub invariant-loop-kind : goal.invariant-loop-kind
invariant-loop-kind l = cells_front l.form l.types l.bytes ≡ after_cells l.row.items (cells_front l.form (drop l.kind-index l.types) l.rest)
