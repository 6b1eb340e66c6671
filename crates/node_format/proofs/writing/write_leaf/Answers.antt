use Rattle.node_format.proofs.WritingLemmas.{leaf_fits}
use Rattle.node_format.proofs.writing.write_leaf.Goals as goal

pub push_leaf-requires : goal.push_leaf-requires
push_leaf-requires c = rw c.item-item.is (leaf_fits c.args.items.now c.requires c.loop-item.item-index _ c.loop-item-test.true)
