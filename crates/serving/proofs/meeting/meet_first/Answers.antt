use Rattle.std.proofs.Common.{◌≡◌, ℤ, None, of_z, subst, sym, to_z, w64}
use Rattle.std.proofs.lemmas.Int.{to_z-of_z}
use Rattle.plain_sessions.specs.Moments.{alone}
use Rattle.plain_sessions.specs.declared.commands.Command.{Command}
use Rattle.serving.specs.Branching.{Went}
use Rattle.serving.proofs.FoundLemmas.{in_moment}
use Rattle.serving.proofs.MeetLemmas.{BeginsAs, FailsAs}
use Rattle.serving.proofs.meeting.meet_first.Goals as goal

pub meet_work-requires-clause-before : goal.meet_work-requires-clause-before
meet_work-requires-clause-before g c κs within =
    let held = c.requires.before in (held.0, held.1, subst (λ (one : Command). alone None held.0 one ≡ None) c.in-Data.is held.2)

pub returns-in-Data-clause-begun : goal.returns-in-Data-clause-begun
returns-in-Data-clause-begun g c =
    subst (λ (e : ℤ). BeginsAs g.D.Digester.address e c.args.session.now c.meet_work.new.session (g.T.Meeting.tells c.args.meeting.now) (g.T.Meeting.tells c.meet_work.new.meeting) c.args.asked.now c.meet_work.result)
    (to_z-of_z w64 c.args.epoch c.ranges.epoch)
    (subst (λ (one : Command). BeginsAs g.D.Digester.address (to_z w64 (of_z w64 c.args.epoch)) c.args.session.now c.meet_work.new.session (g.T.Meeting.tells c.args.meeting.now) (g.T.Meeting.tells c.meet_work.new.meeting) one c.meet_work.result)
    (sym c.in-Data.is) c.meet_work.ensures.begun)

pub returns-in-Data-clause-fails : goal.returns-in-Data-clause-fails
returns-in-Data-clause-fails g c =
    subst (λ (one : Command). FailsAs g.D.Digester.address c.args.session.now (g.T.Meeting.tells c.args.meeting.now) one c.meet_work.result) (sym c.in-Data.is) c.meet_work.ensures.fails

pub returns-in_ok-meet_once-in-Begin-clause-begun : goal.returns-in_ok-meet_once-in-Begin-clause-begun
returns-in_ok-meet_once-in-Begin-clause-begun g c = λ p before waits.
    in_moment g.D.Digester.address _ _ (g.T.Meeting.tells c.args.meeting.now) (g.T.Meeting.tells c.meet_once.new.meeting) (λ found is shared stands left went.
    subst (λ (e : ℤ). Went g.D.Digester.address e p c.args.asked.now shared found left c.meet_once.new.session c.in_ok-meet_once-in-Begin.field-0)
    (to_z-of_z w64 c.args.epoch c.ranges.epoch) went) (c.in_ok-meet_once-in-Begin.ensures.went p before waits)
