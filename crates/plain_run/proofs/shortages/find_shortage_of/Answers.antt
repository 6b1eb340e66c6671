use Rattle.script_text.specs.Collisions.{IsFault, TellsTruly}
use Rattle.plain_run.proofs.PlainLemmas.{item_has, same_fault}
use Rattle.plain_run.proofs.shortages.find_shortage_of.Goals as goal

pub returns-in_err-shortage_of-clause-fault : goal.returns-in_err-shortage_of-clause-fault
returns-in_err-shortage_of-clause-fault c = λ address truly.
    let told = item_has (TellsTruly address) c.args.replies.now c.loop-reply.reply-index c.reply-item.result c.loop-reply-test.true c.reply-item.is truly in
    same_fault (IsFault address) c.from_residual.result c.in_err-shortage_of.field-0.0 (c.in_err-shortage_of.ensures.fault address told) c.from_residual.ensures
