use Rattle.std.proofs.Common.{ℤ, subst, w64}
use Rattle.std.proofs.lemmas.Int.{to_z-of_z}
use Rattle.serving.specs.Deciding.{DecidesFree, PlansDecision, starts_next}
use Rattle.serving.proofs.TryingLemmas.{decided_held, faulty_held, lost_held, refused_held}
use Rattle.serving.proofs.trying.try_held.Goals as goal

pub returns-in-Made-clause-decided : goal.returns-in-Made-clause-decided
returns-in-Made-clause-decided g c =
    let b = g.T.Meeting.tells c.hold.new.self in
    let d = g.T.Meeting.tells c.attempt.new.meeting in
    decided_held g.D.Digester.address (PlansDecision g.D.Digester.address c.args.epoch c.args.session.now c.args.decision) c.args.session.now.branch (starts_next c.args.decision) c.in-Made.made
    (g.T.Meeting.tells c.args.meeting.now) b d c.hold.ensures.held
    (subst (λ (e : ℤ). DecidesFree g.D.Digester.address (PlansDecision g.D.Digester.address e c.args.session.now c.args.decision) c.args.session.now.branch (starts_next c.args.decision) c.in-Made.made b d)
    (to_z-of_z w64 c.args.epoch c.ranges.epoch) c.in-Made.ensures.tried)

pub returns-in-Made-clause-lost : goal.returns-in-Made-clause-lost
returns-in-Made-clause-lost g c =
    lost_held g.D.Digester.address (g.T.Meeting.tells c.args.meeting.now) (g.T.Meeting.tells c.hold.new.self) (g.T.Meeting.tells c.attempt.new.meeting) c.hold.ensures.held c.in-Made.ensures.tried.lost

pub returns-in-Faulty-clause-undecided : goal.returns-in-Faulty-clause-undecided
returns-in-Faulty-clause-undecided g c =
    faulty_held g.D.Digester.address (g.T.Meeting.tells c.args.meeting.now) (g.T.Meeting.tells c.hold.new.self) (g.T.Meeting.tells c.attempt.new.meeting) (g.T.Meeting.tells c.let_go.new.self)
    c.hold.ensures.held c.in-Faulty.ensures.tried c.let_go.ensures.free

pub returns-in-Faulty-clause-lost : goal.returns-in-Faulty-clause-lost
returns-in-Faulty-clause-lost g c =
    (faulty_held g.D.Digester.address (g.T.Meeting.tells c.args.meeting.now) (g.T.Meeting.tells c.hold.new.self) (g.T.Meeting.tells c.attempt.new.meeting) (g.T.Meeting.tells c.let_go.new.self)
    c.hold.ensures.held c.in-Faulty.ensures.tried c.let_go.ensures.free).lost

pub returns-in-Refused-clause-undecided : goal.returns-in-Refused-clause-undecided
returns-in-Refused-clause-undecided g c =
    refused_held g.D.Digester.address (g.T.Meeting.tells c.args.meeting.now) (g.T.Meeting.tells c.hold.new.self) (g.T.Meeting.tells c.attempt.new.meeting) c.hold.ensures.held
    c.in-Refused.ensures.tried

pub returns-in-Refused-clause-lost : goal.returns-in-Refused-clause-lost
returns-in-Refused-clause-lost g c =
    (refused_held g.D.Digester.address (g.T.Meeting.tells c.args.meeting.now) (g.T.Meeting.tells c.hold.new.self) (g.T.Meeting.tells c.attempt.new.meeting) c.hold.ensures.held
    c.in-Refused.ensures.tried).lost
