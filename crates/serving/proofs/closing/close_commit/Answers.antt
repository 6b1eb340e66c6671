use Rattle.std.proofs.Common.{Some, w64}
use Rattle.std.proofs.lemmas.Int.{to_z-of_z}
use Rattle.serving.specs.declared.courses.Found.TheVariants as finding
use Rattle.serving.proofs.ConcludeLemmas.{closing_concludes}
use Rattle.serving.proofs.SettlingLemmas.{closes_between, commits_then}
use Rattle.serving.proofs.closing.close_commit.Goals as goal

pub decide_in-requires-clause-asks : goal.decide_in-requires-clause-asks
decide_in-requires-clause-asks g c κs within =
    let address = g.D.Digester.address in
    let m = g.T.Meeting.tells c.args.meeting.now in
    let held = c.requires.between in (
      held.0,
      held.1.transaction,
      Some (closes_between address c.args.session.now m held.0 c.args.asked.now finding.Commit held.1).0,
      held.1.at,
      record {
        stands = held.1.at.stands;
        has = held.1.has;
        of = commits_then address c.args.session.now m held.0 c.args.asked.now finding.Commit held.1 c.in-Commit.request c.in-Commit.is c.requires.fit;
      },
    )

pub returns-clause-concluded : goal.returns-clause-concluded
returns-clause-concluded g c =
    let address = g.D.Digester.address in
    let m = g.T.Meeting.tells c.args.meeting.now in
    closing_concludes address c.args.epoch _ (to_z-of_z w64 c.args.epoch c.ranges.epoch) c.args.session.now c.decide_in.new.session m (g.T.Meeting.tells c.decide_in.new.meeting)
    c.args.asked.now finding.Commit _
    (λ q between. commits_then address c.args.session.now m q c.args.asked.now finding.Commit between c.in-Commit.request c.in-Commit.is c.requires.fit) (λ q left reply is. is)
    c.decide_in.result c.decide_in.ensures.decided
