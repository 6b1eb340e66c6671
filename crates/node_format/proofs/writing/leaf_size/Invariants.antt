use Rattle.std.proofs.Common.{◌≡◌, ◌+◌, ◌*◌, ◌^◌, ◌≤◌, length, map, take}
use Rattle.tuple_codec.specs.Nodes.{items_bytes}
use Rattle.node_format.specs.Views.{leaf_of}
use Rattle.node_format.proofs.writing.leaf_size.Given as goal

abbrev pub invariant-loop-item : goal.invariant-loop-item
invariant-loop-item l = (l.size ≡ 4 + length (items_bytes 0 (map leaf_of (take l.item-index l.items)))) × (l.size ≤ 4 + 2 ^ 18 * l.item-index)
