use Rattle.std.proofs.Common.{◌≡◌, ◌+◌, drop}
use Rattle.tuple_codec.specs.Nodes.{items_bytes}
use Rattle.tuple_codec.specs.Trees.{rows_in}
use Rattle.prolly_tree.proofs.passing.rows_named.Given as goal

abbrev pub invariant-loop-name : goal.invariant-loop-name
invariant-loop-name l = record {
  spelled : l.rest ≡ items_bytes l.node.level (drop l._name l.node.items);
  counted : l.rows + rows_in (drop l._name l.node.items) ≡ rows_in l.node.items;
}
