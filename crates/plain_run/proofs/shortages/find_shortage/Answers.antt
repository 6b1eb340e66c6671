use Rattle.std.proofs.Common.{List, subst, sym}
use Rattle.std.specs.List.{AllByRecursion}
use Rattle.script_text.specs.Collisions.{IsFault, TellsTruly}
use Rattle.script_text.specs.declared.replies.Reply.{Reply}
use Rattle.plain_run.proofs.PlainLemmas.{item_has, same_fault}
use Rattle.plain_run.proofs.shortages.find_shortage.Goals as goal

pub returns-in_err-find_shortage_of-clause-fault : goal.returns-in_err-find_shortage_of-clause-fault
returns-in_err-find_shortage_of-clause-fault c = λ address truly.
    let TellTruly : List Reply → Type 0 = λ replies. AllByRecursion (TellsTruly address) replies in
    let told = item_has TellTruly c.args.replies.now c.loop-session.session-index c.session-item.result c.loop-session-test.true c.session-item.is truly in
    same_fault (IsFault address) c.from_residual.result c.in_err-find_shortage_of.field-0.0
    (c.in_err-find_shortage_of.ensures.fault address (subst TellTruly (sym c.as_slice.ensures) told)) c.from_residual.ensures
