use Rattle.std.proofs.Common.{refl, subst, w64}
use Rattle.std.proofs.lemmas.Int.{to_z-of_z}
use Rattle.plain_sessions.specs.declared.commands.Command.{Command}
use Rattle.serving.specs.Meetings.{IsBetweenAt}
use Rattle.serving.specs.declared.meeting.Pending.TheVariants as pending
use Rattle.serving.proofs.ConcludeLemmas.{found_concludes}
use Rattle.serving.proofs.concluding.conclude_closing.Goals as goal

pub close_found-requires-clause-between : goal.close_found-requires-clause-between
close_found-requires-clause-between g c κs within =
    let held = c.requires.between in
    (held.0, subst (λ (asked : Command). IsBetweenAt g.D.Digester.address c.args.session.now (g.T.Meeting.tells c.args.meeting.now) held.0 asked (pending.Closing c.args.found.now)) c.in-Data.is held.1)

pub returns-clause-concluded : goal.returns-clause-concluded
returns-clause-concluded g c =
    found_concludes g.D.Digester.address c.args.epoch _ (to_z-of_z w64 c.args.epoch c.ranges.epoch) c.args.session.now c.close_found.new.session (g.T.Meeting.tells c.args.meeting.now)
    (g.T.Meeting.tells c.close_found.new.meeting) c.args.asked.now _ c.in-Data.is (pending.Closing c.args.found.now) _ refl c.close_found.result c.close_found.ensures.concluded
