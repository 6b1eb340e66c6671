use Rattle.std.proofs.Common.{sym, ◌∙◌}
use Rattle.node_format.proofs.MarkLemmas.{skip_step, skip_done}
use Rattle.node_format.proofs.marks.after_items.Goals as goal

pub loop-preserved : goal.loop-preserved
loop-preserved c =
    rw c.after_item-rest.ensures (sym (skip_step c.args.level c.args.count c.loop.counter c.loop.rest.now c.loop-test.true) ∙ c.loop.invariant)

pub returns : goal.returns
returns c = sym (skip_done c.args.level c.args.count c.loop.counter c.loop.rest.now c.loop-test.false) ∙ c.loop.invariant
