use Rattle.std.proofs.Common.{◌≡◌, ◌+◌, drop, length}
use Rattle.std.specs.List.{flat_map}
use Rattle.schema_model.proofs.lists.items_size.Given as goal

abbrev pub invariant-loop-item : goal.invariant-loop-item
invariant-loop-item g l = l.size + length (flat_map g.P.Part.written (drop l.item-index l.items)) ≡ length (flat_map g.P.Part.written l.items)
