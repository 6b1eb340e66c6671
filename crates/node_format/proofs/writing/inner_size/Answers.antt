use Rattle.node_format.proofs.WritingLemmas.{ref_fits}
use Rattle.node_format.proofs.writing.inner_size.Goals as goal

pub name_size-requires : goal.name_size-requires
name_size-requires c = rw c.item-item.is (ref_fits c.args.level c.args.items.now c.requires.level c.requires.node c.loop-item.item-index _ c.loop-item-test.true)
