use Rattle.std.proofs.Common.{◌≡◌, ◌+◌, drop}
use Rattle.tuple_codec.specs.Nodes.{items_bytes}
use Rattle.prolly_tree.specs.Lists.{place_of}
use Rattle.prolly_tree.proofs.passing.value_from.Given as goal

abbrev pub invariant-loop-row : goal.invariant-loop-row
invariant-loop-row l = record {
  spelled : l.rest ≡ items_bytes 0 (drop l._row l.leaf.items);
  place : place_of l.key l.leaf.items ≡ l._row + place_of l.key (drop l._row l.leaf.items);
}
