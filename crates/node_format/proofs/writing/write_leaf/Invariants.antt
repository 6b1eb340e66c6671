use Rattle.std.proofs.Common.{◌≡◌, ◌++◌, length, map, take}
use Rattle.tuple_codec.specs.Nodes.{header_bytes, items_bytes}
use Rattle.node_format.specs.Views.{leaf_of}
use Rattle.node_format.proofs.writing.write_leaf.Given as goal

abbrev pub invariant-loop-item : goal.invariant-loop-item
invariant-loop-item l = l.out.items ≡ header_bytes 0 (length l.items) ++ items_bytes 0 (map leaf_of (take l.item-index l.items))
