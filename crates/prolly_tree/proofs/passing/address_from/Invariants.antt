use Rattle.std.proofs.Common.{◌≡◌, ◌+◌, drop}
use Rattle.tuple_codec.specs.Nodes.{items_bytes}
use Rattle.prolly_tree.specs.Lists.{place_of}
use Rattle.prolly_tree.proofs.passing.address_from.Given as goal

abbrev pub invariant-loop-name : goal.invariant-loop-name
invariant-loop-name l = record {
  spelled : l.rest ≡ items_bytes l.node.level (drop l._name l.node.items);
  place : place_of l.key l.node.items ≡ l._name + place_of l.key (drop l._name l.node.items);
}
