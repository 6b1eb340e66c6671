use Rattle.std.proofs.Common.{Some, ap, refl, subst, w64}
use Rattle.std.proofs.lemmas.Int.{to_z-of_z}
use Rattle.plain_sessions.specs.declared.commands.Command.TheVariants.{Data}
use Rattle.serving.specs.Meetings.{IsBetweenAt}
use Rattle.serving.specs.declared.courses.Found.{Found}
use Rattle.serving.specs.declared.meeting.Pending.TheVariants as pending
use Rattle.serving.proofs.ConcludeLemmas.{closing_concludes, found_concludes}
use Rattle.serving.proofs.SettlingLemmas.{closes_between, commits_at, merges_then}
use Rattle.serving.proofs.closing.close_found.Goals as goal

pub decide_in-requires-clause-asks : goal.decide_in-requires-clause-asks
decide_in-requires-clause-asks g c κs within =
    let address = g.D.Digester.address in
    let m = g.T.Meeting.tells c.args.meeting.now in
    let held = c.requires.between in (
      held.0,
      held.1.transaction,
      Some (closes_between address c.args.session.now m held.0 c.args.asked.now c.args.found.now held.1).0,
      held.1.at,
      record {
        stands = held.1.at.stands;
        has = held.1.has;
        of = merges_then address c.args.session.now m held.0 c.args.asked.now c.args.found.now held.1 c.in-Merge.closing c.in-Merge.is;
      },
    )

pub close_commit-requires-clause-between : goal.close_commit-requires-clause-between
close_commit-requires-clause-between g c κs within =
    let held = c.requires.between in
    (held.0, subst (λ (had : Found). IsBetweenAt g.D.Digester.address c.args.session.now (g.T.Meeting.tells c.args.meeting.now) held.0 (Data c.args.asked.now) (pending.Closing had)) c.in-Commit.is held.1)

pub close_commit-requires-clause-commits : goal.close_commit-requires-clause-commits
close_commit-requires-clause-commits g c κs within =
    let held = c.requires.between in
    commits_at g.D.Digester.address c.args.session.now (g.T.Meeting.tells c.args.meeting.now) held.0 c.args.asked.now c.args.found.now held.1 c.in-Commit.is

pub returns-in-Merge-clause-concluded : goal.returns-in-Merge-clause-concluded
returns-in-Merge-clause-concluded g c =
    let address = g.D.Digester.address in
    let m = g.T.Meeting.tells c.args.meeting.now in
    closing_concludes address c.args.epoch _ (to_z-of_z w64 c.args.epoch c.ranges.epoch) c.args.session.now c.decide_in.new.session m (g.T.Meeting.tells c.decide_in.new.meeting)
    c.args.asked.now c.args.found.now _ (λ q between. merges_then address c.args.session.now m q c.args.asked.now c.args.found.now between c.in-Merge.closing c.in-Merge.is) (λ q left reply is. is)
    c.decide_in.result c.decide_in.ensures.decided

pub returns-in-Commit-clause-concluded : goal.returns-in-Commit-clause-concluded
returns-in-Commit-clause-concluded g c =
    found_concludes g.D.Digester.address c.args.epoch _ (to_z-of_z w64 c.args.epoch c.ranges.epoch) c.args.session.now c.close_commit.new.session (g.T.Meeting.tells c.args.meeting.now)
    (g.T.Meeting.tells c.close_commit.new.meeting) (Data c.args.asked.now) (Data c.args.asked.now) refl (pending.Closing c.args.found.now) _ (ap (λ (had : Found). pending.Closing had) c.in-Commit.is) c.close_commit.result c.close_commit.ensures.concluded
