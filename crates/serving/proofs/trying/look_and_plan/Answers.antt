use Rattle.std.proofs.Common.{ℤ, subst, w64}
use Rattle.std.proofs.lemmas.Int.{to_z-of_z}
use Rattle.serving.specs.Deciding.{PlansDecision, deciding_of}
use Rattle.serving.proofs.TryingLemmas.{has_looked, may_settle, planned_on}
use Rattle.serving.proofs.trying.look_and_plan.Goals as goal

pub plan_by-requires-clause-looked : goal.plan_by-requires-clause-looked
plan_by-requires-clause-looked g c κs within =
    has_looked c.law_of_states.ensures g.D.Digester.address c.args.session.now c.in_ok-look.look (g.T.Meeting.tells c.args.meeting.now) (g.T.Meeting.tells c.look.new.self)
    c.in_ok-look.ensures.looked c.requires.known

pub returns-clause-planned : goal.returns-clause-planned
returns-clause-planned g c =
    let (p, t, ending, asks) = c.requires.asks in
    let plans : PlansDecision g.D.Digester.address c.args.epoch c.args.session.now c.args.decision c.in_ok-look.look c.in_ok-plan.plan =
    subst (λ (e : ℤ). PlansDecision g.D.Digester.address e c.args.session.now c.args.decision c.in_ok-look.look c.in_ok-plan.plan) (to_z-of_z w64 c.args.epoch c.ranges.epoch) c.in_ok-plan.ensures.planned in
    planned_on g.D.Digester.address (PlansDecision g.D.Digester.address c.args.epoch c.args.session.now c.args.decision) c.args.session.now.branch
    (record { look = c.in_ok-look.look; plan = c.in_ok-plan.plan }) (g.T.Meeting.tells c.args.meeting.now) (g.T.Meeting.tells c.look.new.self) c.in_ok-look.ensures.looked
    (may_settle g.D.Digester.address c.args.session.now c.in_ok-look.look c.in_ok-plan.plan p t (deciding_of g.D.Digester.address c.args.epoch p t ending) (plans p t ending asks)) plans
