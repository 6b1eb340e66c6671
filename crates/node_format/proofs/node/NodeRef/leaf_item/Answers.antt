use Rattle.std.proofs.Common.{sym}
use Rattle.tuple_codec.specs.Nodes.{leaf_item}
use Rattle.node_format.proofs.FoundLemmas.{leaf_found, leaf_missing}
use Rattle.node_format.proofs.node.NodeRef.leaf_item.Goals as goal

pub unreachable-requires : goal.unreachable-requires
unreachable-requires c = leaf_missing c.args.self.now c.args.i c.from_item.result.now c.requires.within c.from_item.ensures c.requires.leaf (sym c.in-None.ensures)

pub returns : goal.returns
returns c =
    leaf_found c.args.self.now c.args.i c.from_item.result.now c.requires.within c.from_item.ensures
    (leaf_item c.in-Some.item.0.now c.in-Some.item.1.now, c.in-Some.field-0-1.now) c.requires.leaf (sym c.in-Some.ensures)
