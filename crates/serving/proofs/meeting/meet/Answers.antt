use Rattle.std.proofs.Common.{◌+◌, ◌<◌, ◌^◌, ℕ, subst, sym, w64}
use Rattle.std.proofs.lemmas.Int.{to_z-of_z}
use Rattle.shared_history.specs.Meeting.{Tells}
use Rattle.serving.proofs.BegunLemmas.{answered_of, started_of, started_place}
use Rattle.serving.proofs.FoundLemmas.{before_found, in_moment}
use Rattle.serving.proofs.meeting.meet.Goals as goal

pub work_started-requires-clause-started : goal.work_started-requires-clause-started
work_started-requires-clause-started g c κs within =
    let held = c.requires.before in
    let moment = c.in_ok-reply.ensures.begun held.0 held.1 held.2 in (
      held.0,
      moment.is.shared,
      moment.found,
      moment.left,
      started_of g.D.Digester.address c.args.epoch _ (to_z-of_z w64 c.args.epoch c.ranges.epoch) held.0 c.args.asked.now moment.is.shared moment.found moment.left c.meet_start.new.session
          c.in_ok-reply.field-0 c.in-Started.is (moment.leaves moment.is.shared moment.is.stands),
    )

pub work_started-requires-clause-place : goal.work_started-requires-clause-place
work_started-requires-clause-place g c κs within =
    let held = c.requires.before in
    let moment = c.in_ok-reply.ensures.begun held.0 held.1 held.2 in
    let m : Tells = g.T.Meeting.tells c.args.meeting.now in
    let started = started_of g.D.Digester.address c.args.epoch _ (to_z-of_z w64 c.args.epoch c.ranges.epoch) held.0 c.args.asked.now moment.is.shared moment.found moment.left c.meet_start.new.session
    c.in_ok-reply.field-0 c.in-Started.is (moment.leaves moment.is.shared moment.is.stands) in
    subst (λ (n : ℕ). n + 1 < 2 ^ 32)
    (sym (started_place g.D.Digester.address held.0 c.args.asked.now moment.is.shared moment.found moment.left c.meet_start.new.session started c.args.session.now
    (before_found g.D.Digester.address c.args.session.now m held.0 held.1 moment.found moment.is moment.is.shared moment.is.stands))) c.requires.place

pub returns-in-Answered-clause-met : goal.returns-in-Answered-clause-met
returns-in-Answered-clause-met g c = λ p before waits.
    in_moment g.D.Digester.address _ _ (g.T.Meeting.tells c.args.meeting.now) (g.T.Meeting.tells c.meet_start.new.meeting) (λ found is shared stands left begins.
    answered_of g.D.Digester.address c.args.epoch _ (to_z-of_z w64 c.args.epoch c.ranges.epoch) p c.args.asked.now shared found left c.meet_start.new.session
    c.in_ok-reply.field-0 c.in-Answered.reply c.in-Answered.is begins) (c.in_ok-reply.ensures.begun p before waits)

pub returns-in-Started-clause-met : goal.returns-in-Started-clause-met
returns-in-Started-clause-met g c = λ p before waits.
    in_moment g.D.Digester.address _ _ (g.T.Meeting.tells c.args.meeting.now) (g.T.Meeting.tells c.meet_start.new.meeting) (λ found is shared stands left begins.
    c.work_started.ensures.met c.args.epoch p shared found left
    (started_of g.D.Digester.address c.args.epoch _ (to_z-of_z w64 c.args.epoch c.ranges.epoch) p c.args.asked.now shared found left c.meet_start.new.session
    c.in_ok-reply.field-0 c.in-Started.is begins)) (c.in_ok-reply.ensures.begun p before waits)
