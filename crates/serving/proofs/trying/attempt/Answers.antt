use Rattle.std.proofs.Common.{ℤ, ◌∙◌, subst, w64}
use Rattle.std.proofs.lemmas.Int.{to_z-of_z}
use Rattle.serving.specs.Deciding.{HasPlanned, PlansDecision, starts_next}
use Rattle.serving.proofs.TryingLemmas.{attempted, has_room, planned_branch, planned_given, planned_there}
use Rattle.serving.proofs.trying.attempt.Goals as goal

pub settle_plan-requires-clause-branch : goal.settle_plan-requires-clause-branch
settle_plan-requires-clause-branch g c κs within =
    planned_branch g.D.Digester.address _ c.args.session.now.branch (starts_next c.args.decision) c.in-Ok.planned (g.T.Meeting.tells c.args.meeting.now) (g.T.Meeting.tells c.look_and_plan.new.meeting)
    c.in-Ok.ensures.planned c.requires.branch

pub settle_plan-requires-clause-room : goal.settle_plan-requires-clause-room
settle_plan-requires-clause-room g c κs within =
    has_room (g.T.Meeting.tells c.args.meeting.now) (g.T.Meeting.tells c.look_and_plan.new.meeting) c.in-Ok.ensures.planned.idle.waits c.requires.room

pub settle_plan-requires-clause-given : goal.settle_plan-requires-clause-given
settle_plan-requires-clause-given g c κs within =
    planned_given g.D.Digester.address _ c.args.session.now.branch (starts_next c.args.decision) c.in-Ok.planned (g.T.Meeting.tells c.args.meeting.now) (g.T.Meeting.tells c.look_and_plan.new.meeting)
    c.in-Ok.ensures.planned

pub returns-in-Ok-clause-tried : goal.returns-in-Ok-clause-tried
returns-in-Ok-clause-tried g c =
    let a = g.T.Meeting.tells c.args.meeting.now in
    let b = g.T.Meeting.tells c.look_and_plan.new.meeting in
    attempted g.D.Digester.address (PlansDecision g.D.Digester.address c.args.epoch c.args.session.now c.args.decision) c.args.session.now.branch (starts_next c.args.decision) c.in-Ok.planned a b
    (subst (λ (e : ℤ). HasPlanned g.D.Digester.address (PlansDecision g.D.Digester.address e c.args.session.now c.args.decision) c.args.session.now.branch c.in-Ok.planned a b)
    (to_z-of_z w64 c.args.epoch c.ranges.epoch) c.in-Ok.ensures.planned)
    (g.T.Meeting.tells c.settle_plan.new.meeting) c.settle_plan.result c.settle_plan.ensures.settled

pub returns-in-Ok-clause-kept : goal.returns-in-Ok-clause-kept
returns-in-Ok-clause-kept g c = λ held.
    let p = c.in-Ok.ensures.planned in
    c.settle_plan.ensures.kept (p.idle.held ∙ held)
    (planned_there g.D.Digester.address _ c.args.session.now.branch (starts_next c.args.decision) c.in-Ok.planned (g.T.Meeting.tells c.args.meeting.now) (g.T.Meeting.tells c.look_and_plan.new.meeting) p)
