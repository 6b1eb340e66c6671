use Rattle.node_format.proofs.WritingLemmas.{leaf_fits}
use Rattle.node_format.proofs.writing.leaf_size.Goals as goal

pub leaf_item_size-size-requires : goal.leaf_item_size-size-requires
leaf_item_size-size-requires c = rw c.item-item.is (leaf_fits c.args.items.now c.requires c.loop-item.item-index _ c.loop-item-test.true)
