use Rattle.std.proofs.Common.{Some, w64}
use Rattle.std.proofs.lemmas.Int.{to_z-of_z}
use Rattle.serving.proofs.OpenLemmas.{closed_went, commit_of, merge_of}
use Rattle.serving.proofs.closing.decide_open.Goals as goal

pub decide_in-requires-clause-asks : goal.decide_in-requires-clause-asks
decide_in-requires-clause-asks g c κs within =
    let held = c.requires.closing in (
      held.0,
      held.1,
      Some held.2,
      held.3.at,
      record {
        stands = held.3.at.stands;
        has = held.4;
        of = commit_of held.0 held.1 held.2 c.args.asked.now c.in-Commit.request c.in-Commit.is c.requires.fit held.5;
      },
    )

pub decide_in-requires-in-Merge-clause-asks : goal.decide_in-requires-in-Merge-clause-asks
decide_in-requires-in-Merge-clause-asks g c κs within =
    let held = c.requires.closing in (
      held.0,
      held.1,
      Some held.2,
      held.3.at,
      record {
        stands = held.3.at.stands;
        has = held.4;
        of = merge_of held.0 held.1 held.2 c.args.asked.now c.in-Merge.request c.in-Merge.is c.requires.fit held.5;
      },
    )

pub returns-in-Commit-clause-went : goal.returns-in-Commit-clause-went
returns-in-Commit-clause-went g c =
    closed_went g.D.Digester.address c.args.epoch _ (to_z-of_z w64 c.args.epoch c.ranges.epoch) c.args.session.now c.decide_in.new.session (g.T.Meeting.tells c.args.meeting.now)
    (g.T.Meeting.tells c.decide_in.new.meeting) c.args.asked.now _
    (λ p t ending before transaction work_is. record {
      stands = before.at.stands;
      has = transaction;
      of = commit_of p t ending c.args.asked.now c.in-Commit.request c.in-Commit.is c.requires.fit work_is;
    })
    (λ p t ending found shared left reply has. has.ends) c.decide_in.result c.decide_in.ensures.decided

pub returns-in-Merge-clause-went : goal.returns-in-Merge-clause-went
returns-in-Merge-clause-went g c =
    closed_went g.D.Digester.address c.args.epoch _ (to_z-of_z w64 c.args.epoch c.ranges.epoch) c.args.session.now c.decide_in-in-Merge.new.session (g.T.Meeting.tells c.args.meeting.now)
    (g.T.Meeting.tells c.decide_in-in-Merge.new.meeting) c.args.asked.now _
    (λ p t ending before transaction work_is. record {
      stands = before.at.stands;
      has = transaction;
      of = merge_of p t ending c.args.asked.now c.in-Merge.request c.in-Merge.is c.requires.fit work_is;
    })
    (λ p t ending found shared left reply has. has.ends) c.decide_in-in-Merge.result c.decide_in-in-Merge.ensures.decided
