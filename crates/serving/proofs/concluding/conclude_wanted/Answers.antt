use Rattle.std.proofs.Common.{refl, subst, w64}
use Rattle.std.proofs.lemmas.Int.{to_z-of_z}
use Rattle.serving.specs.Meetings.{IsBetweenAt}
use Rattle.serving.specs.declared.meeting.Pending.{Pending}
use Rattle.serving.proofs.ConcludeLemmas.{found_concludes, work_concludes}
use Rattle.serving.proofs.concluding.conclude_wanted.Goals as goal

pub conclude_work-requires-clause-between : goal.conclude_work-requires-clause-between
conclude_work-requires-clause-between g c κs within =
    let held = c.requires.between in (
      held.0,
      c.args.asked.now,
      subst (λ (w : Pending). IsBetweenAt g.D.Digester.address c.args.session.now (g.T.Meeting.tells c.args.meeting.now) held.0 c.args.asked.now w) c.in-Between.is held.1,
    )

pub conclude_closing-requires-clause-between : goal.conclude_closing-requires-clause-between
conclude_closing-requires-clause-between g c κs within =
    let held = c.requires.between in
    (held.0, subst (λ (w : Pending). IsBetweenAt g.D.Digester.address c.args.session.now (g.T.Meeting.tells c.args.meeting.now) held.0 c.args.asked.now w) c.in-Closing.is held.1)

pub returns-in-Between-clause-concluded : goal.returns-in-Between-clause-concluded
returns-in-Between-clause-concluded g c =
    work_concludes g.D.Digester.address c.args.epoch c.args.session.now c.conclude_work.new.session (g.T.Meeting.tells c.args.meeting.now) (g.T.Meeting.tells c.conclude_work.new.meeting)
    c.args.asked.now c.args.wanted c.in-Between.reply c.in-Between.is c.conclude_work.result c.conclude_work.ensures.concluded

pub returns-in-Closing-clause-concluded : goal.returns-in-Closing-clause-concluded
returns-in-Closing-clause-concluded g c =
    found_concludes g.D.Digester.address c.args.epoch _ (to_z-of_z w64 c.args.epoch c.ranges.epoch) c.args.session.now c.conclude_closing.new.session (g.T.Meeting.tells c.args.meeting.now)
    (g.T.Meeting.tells c.conclude_closing.new.meeting) c.args.asked.now c.args.asked.now refl c.args.wanted _ c.in-Closing.is c.conclude_closing.result c.conclude_closing.ensures.concluded
