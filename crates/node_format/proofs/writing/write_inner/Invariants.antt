use Rattle.std.proofs.Common.{◌≡◌, ◌++◌, length, map, take}
use Rattle.tuple_codec.specs.Nodes.{header_bytes, items_bytes}
use Rattle.node_format.specs.Views.{ref_of}
use Rattle.node_format.proofs.writing.write_inner.Given as goal

abbrev pub invariant-loop-item : goal.invariant-loop-item
invariant-loop-item l = l.out.items ≡ header_bytes l.level (length l.items) ++ items_bytes 1 (map ref_of (take l.item-index l.items))
