use Rattle.std.proofs.Common.{ℤ, subst, w64}
use Rattle.std.proofs.lemmas.Int.{to_z-of_z}
use Rattle.script_text.specs.Collisions.{IsFault}
use Rattle.serving.specs.Deciding.{DecidesFree, PlansDecision, starts_next}
use Rattle.serving.proofs.TryingLemmas.{decided_free, failed_on, fault_of, lost_one}
use Rattle.serving.proofs.trying.try_free.Goals as goal

pub loop-try-preserved : goal.loop-try-preserved
loop-try-preserved g c = (
  λ first h. c.in-Lost.ensures.ready first (c.loop-try.invariant.0 first h),
  lost_one c.loop-try._try (g.T.Meeting.tells c.args.meeting.now) (g.T.Meeting.tells c.loop-try.meeting) (g.T.Meeting.tells c.attempt.new.meeting) c.loop-try.invariant.1 c.in-Lost.ensures.tried,
)

pub returns-in-Made-clause-ready : goal.returns-in-Made-clause-ready
returns-in-Made-clause-ready g c = λ first h. c.in-Made.ensures.ready first (c.loop-try.invariant.0 first h)

pub returns-in-Made-clause-tried : goal.returns-in-Made-clause-tried
returns-in-Made-clause-tried g c =
    let b = g.T.Meeting.tells c.loop-try.meeting in
    let d = g.T.Meeting.tells c.attempt.new.meeting in
    decided_free g.D.Digester.address (PlansDecision g.D.Digester.address c.args.epoch c.args.session.now c.args.decision) c.args.session.now.branch (starts_next c.args.decision) c.in-Made.made
    c.loop-try._try (g.T.Meeting.tells c.args.meeting.now) b d c.loop-try.invariant.1
    (subst (λ (e : ℤ). DecidesFree g.D.Digester.address (PlansDecision g.D.Digester.address e c.args.session.now c.args.decision) c.args.session.now.branch (starts_next c.args.decision) c.in-Made.made b d)
    (to_z-of_z w64 c.args.epoch c.ranges.epoch) c.in-Made.ensures.tried)

pub returns-in-Faulty-clause-ready : goal.returns-in-Faulty-clause-ready
returns-in-Faulty-clause-ready g c = λ first h. c.attempt.ensures.ready first (c.loop-try.invariant.0 first h)

pub returns-in-Faulty-clause-short : goal.returns-in-Faulty-clause-short
returns-in-Faulty-clause-short g c =
    failed_on c.attempt.result c.in-Faulty.fault c.in-Faulty.is g.D.Digester.address _ c.args.session.now.branch (starts_next c.args.decision) c.loop-try._try
    (g.T.Meeting.tells c.args.meeting.now) (g.T.Meeting.tells c.loop-try.meeting) (g.T.Meeting.tells c.attempt.new.meeting) c.requires.free c.loop-try.invariant.1 c.attempt.ensures.tried

pub returns-in-Faulty-clause-fault : goal.returns-in-Faulty-clause-fault
returns-in-Faulty-clause-fault g c = fault_of c.attempt.result c.in-Faulty.fault c.in-Faulty.is (IsFault g.D.Digester.address) c.attempt.ensures.fault
