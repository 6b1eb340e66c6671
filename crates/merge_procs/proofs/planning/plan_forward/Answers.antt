use Rattle.plain_sessions.specs.Moments.{forwarded}
use Rattle.merge_procs.proofs.PlanningLemmas.{refuses, start_of}
use Rattle.merge_procs.proofs.DecidingLemmas.{all_there, known_now, plans_forward}
use Rattle.merge_procs.proofs.planning.plan_forward.Goals as goal

pub returns-then-is_moved-clause-planned : goal.returns-then-is_moved-clause-planned
returns-then-is_moved-clause-planned g c = λ p t shared present d known.
    refuses g.D.Digester.address c.args.look.now t shared present c.is_moved.result (c.is_moved.ensures p t shared present d) (forwarded shared.commits c.args.other.0) c.refused.result
    c.if-is_moved.true c.refused.ensures

pub forwarded-requires-clause-known : goal.forwarded-requires-clause-known
forwarded-requires-clause-known g c κs within =
    let (p, t, shared, present, d, known) = c.requires.decides in
    let address = g.D.Digester.address in
    let laws = c.laws.ensures in
    let (start, started) = start_of address c.args.session.now c.args.look.now p t shared present d in (
      shared.commits,
      all_there address laws.chunks laws.records laws.commits c.args.session.now c.args.look.now start started c.in_ok-work.work c.in_ok-work.ensures.work p t shared present d,
      known_now address laws.chunks laws.records laws.commits c.args.session.now c.args.look.now start started c.in_ok-work.work c.in_ok-work.ensures.work p t shared present d c.args.other.0 known,
    )

pub returns-clause-planned : goal.returns-clause-planned
returns-clause-planned g c = λ p t shared present d known.
    let address = g.D.Digester.address in
    let laws = c.laws.ensures in
    let (start, started) = start_of address c.args.session.now c.args.look.now p t shared present d in
    let there = all_there address laws.chunks laws.records laws.commits c.args.session.now c.args.look.now start started c.in_ok-work.work c.in_ok-work.ensures.work p t shared present d in
    let now = known_now address laws.chunks laws.records laws.commits c.args.session.now c.args.look.now start started c.in_ok-work.work c.in_ok-work.ensures.work p t shared present d
    c.args.other.0 known in
    plans_forward address laws.chunks laws.records laws.commits c.args.session.now c.args.look.now start started c.in_ok-work.work c.in_ok-work.ensures.work p t shared present d
    laws.drafts c.tell.ensures c.args.other known c.is_moved.result (c.is_moved.ensures p t shared present d) c.if-is_moved.false c.forwarded.result
    (c.forwarded.ensures.planned shared.commits there now)
