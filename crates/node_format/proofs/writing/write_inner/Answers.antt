use Rattle.node_format.proofs.WritingLemmas.{ref_fits}
use Rattle.node_format.proofs.writing.write_inner.Goals as goal

pub push_ref-requires : goal.push_ref-requires
push_ref-requires c = rw c.item-item.is (ref_fits c.args.level c.args.items.now c.requires.level c.requires.node c.loop-item.item-index _ c.loop-item-test.true)
