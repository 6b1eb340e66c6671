use Rattle.std.proofs.Common.{Bool, ap, option_map, subst, sym}
use Rattle.std.specs.Arc.{arc_value}
use Rattle.script_text.specs.Collisions.{IsFault}
use Rattle.shared_history.specs.Meeting.{Settles}
use Rattle.serving.specs.Deciding.{IfFaulty, IsNotLost, SettlesPlan, starts_next}
use Rattle.serving.specs.declared.trying.Tried.{Tried}
use Rattle.serving.proofs.TryingLemmas.{fault_by, not_lost, settles_by}
use Rattle.serving.proofs.trying.settle_plan.Goals as goal

pub returns-clause-settled : goal.returns-clause-settled
returns-clause-settled g c =
    let address = g.D.Digester.address in
    let old = g.T.Meeting.tells c.args.meeting.now in
    let new = g.T.Meeting.tells c.settle-ended.new.self in
    subst (λ (result : Tried). SettlesPlan address c.args.planned (starts_next c.args.decision) old new result) (sym c.tried_by.ensures)
    (settles_by address c.args.planned (starts_next c.args.decision) old new c.settle-ended.result
    (subst (λ (next : Bool). Settles address c.args.planned.look c.args.planned.plan.change (option_map arc_value c.args.planned.plan.sealed) next old new c.settle-ended.result)
    c.starts_next-next.ensures c.settle-ended.ensures.settled))

pub returns-clause-kept : goal.returns-clause-kept
returns-clause-kept g c = λ held there.
    subst IsNotLost (sym c.tried_by.ensures) (not_lost c.settle-ended.result c.args.planned.plan.reply (c.settle-ended.ensures.kept held there))

pub returns-clause-fault : goal.returns-clause-fault
returns-clause-fault g c =
    let address = g.D.Digester.address in
    let old = g.T.Meeting.tells c.args.meeting.now in
    let new = g.T.Meeting.tells c.settle-ended.new.self in
    subst (λ (result : Tried). IfFaulty result (IsFault address)) (sym c.tried_by.ensures)
    (fault_by address c.args.planned (starts_next c.args.decision) old new c.law_of_chunks.ensures c.requires.stands c.settle-ended.result
    (subst (λ (next : Bool). Settles address c.args.planned.look c.args.planned.plan.change (option_map arc_value c.args.planned.plan.sealed) next old new c.settle-ended.result)
    c.starts_next-next.ensures c.settle-ended.ensures.settled))
