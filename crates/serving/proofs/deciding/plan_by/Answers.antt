use Rattle.std.proofs.Common.{w64}
use Rattle.std.proofs.lemmas.Int.{to_z-of_z}
use Rattle.plain_sessions.specs.Merging.{Committing}
use Rattle.serving.proofs.PlanningLemmas.{begin_asked, close_of, closing_planned, commit_asked, commit_of, dated, merge_of, rule_planned}
use Rattle.serving.proofs.deciding.plan_by.Goals as goal

pub returns-in-Commit-clause-planned : goal.returns-in-Commit-clause-planned
returns-in-Commit-clause-planned g c =
    rule_planned g.D.Digester.address c.args.epoch c.args.session.now c.args.look.now c.requires.looked c.args.decision c.plan_commit.result
    (λ p t ending asks. commit_asked g.D.Digester.address c.args.session.now c.args.decision p t ending asks c.in-Commit.is) c.plan_commit.ensures.planned

pub returns-in-Begin-clause-planned : goal.returns-in-Begin-clause-planned
returns-in-Begin-clause-planned g c =
    rule_planned g.D.Digester.address c.args.epoch c.args.session.now c.args.look.now c.requires.looked c.args.decision c.plan_commit-in-Begin.result
    (λ p t ending asks. begin_asked g.D.Digester.address c.args.session.now c.args.decision p t ending asks c.in-Begin.is) c.plan_commit-in-Begin.ensures.planned

pub returns-in-DoltCommit-clause-planned : goal.returns-in-DoltCommit-clause-planned
returns-in-DoltCommit-clause-planned g c =
    let looked = c.requires.looked in
    closing_planned g.D.Digester.address c.args.epoch c.args.session.now c.args.look.now looked c.args.decision c.plan_dolt_commit.result (λ p t ending asks way.
    let of = commit_of g.D.Digester.address c.args.session.now c.args.decision p t ending asks c.in-DoltCommit.request c.in-DoltCommit.is in
    let call = Committing of.1.0 c.in-DoltCommit.request.now.message in (
      call,
      of.1.1,
      dated g.D.Digester.address _ c.args.epoch (to_z-of_z w64 c.args.epoch c.ranges.epoch) c.args.look.now p t looked.seen looked.is.state call c.plan_dolt_commit.result
          (c.plan_dolt_commit.ensures.planned p t looked.seen looked.is.state of.1.0 way of.1.2),
    ))

pub returns-in-Merge-clause-planned : goal.returns-in-Merge-clause-planned
returns-in-Merge-clause-planned g c =
    let looked = c.requires.looked in
    closing_planned g.D.Digester.address c.args.epoch c.args.session.now c.args.look.now looked c.args.decision c.plan_merge.result (λ p t ending asks way.
    let of = merge_of g.D.Digester.address c.args.session.now c.args.decision p t ending asks c.in-Merge.request c.in-Merge.is in (
      of.1.0,
      of.1.1,
      dated g.D.Digester.address _ c.args.epoch (to_z-of_z w64 c.args.epoch c.ranges.epoch) c.args.look.now p t looked.seen looked.is.state of.1.0 c.plan_merge.result
          (c.plan_merge.ensures.planned p t looked.seen looked.is.state of.1.0 way of.1.2),
    ))

pub returns-in-Close-clause-planned : goal.returns-in-Close-clause-planned
returns-in-Close-clause-planned g c =
    let looked = c.requires.looked in
    closing_planned g.D.Digester.address c.args.epoch c.args.session.now c.args.look.now looked c.args.decision c.plan_closing.result (λ p t ending asks way.
    let of = close_of g.D.Digester.address c.args.session.now c.args.decision p t ending asks c.in-Close.closing c.in-Close.is in (
      of.1.0,
      of.1.1,
      dated g.D.Digester.address _ c.args.epoch (to_z-of_z w64 c.args.epoch c.ranges.epoch) c.args.look.now p t looked.seen looked.is.state of.1.0 c.plan_closing.result
          (c.plan_closing.ensures.planned p t looked.seen looked.is.state of.1.0 way of.1.2),
    ))
