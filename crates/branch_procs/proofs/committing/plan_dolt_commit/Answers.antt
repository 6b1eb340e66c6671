use Rattle.std.proofs.Common.{ℤ, subst, w64}
use Rattle.std.specs.Prelude.{IfOk}
use Rattle.std.proofs.lemmas.Int.{to_z-of_z}
use Rattle.plain_sessions.specs.Merging.{Committing}
use Rattle.plain_sessions.specs.Moments.{closed}
use Rattle.plain_sessions.specs.Records.{BranchState, commit_on}
use Rattle.shared_db.specs.Plans.{PlanIs}
use Rattle.session_plan.proofs.CommitLemmas.{fault_told}
use Rattle.branch_procs.specs.Committing.{IsCommitted}
use Rattle.session_plan.specs.Committing.{parents_on}
use Rattle.branch_procs.proofs.CommittingLemmas.{can_commit, can_decide, own_is, plans_told, refuses}
use Rattle.branch_procs.proofs.committing.plan_dolt_commit.Goals as goal

pub decided-made-requires-after_bounds : goal.decided-made-requires-after_bounds
decided-made-requires-after_bounds g c κs within =
    let (p, t, shared, present, d) = c.requires.decides in (
      shared.commits,
      t.start,
      present,
      t.own,
      can_decide g.D.Digester.address c.laws.ensures.chunks c.laws.ensures.records c.laws.ensures.commits c.args.session.now c.args.look.now c.in-Some.start c.in-Some.is
          c.in_ok-work.work c.in_ok-work.ensures.work p t shared present d,
    )

pub returns-in_err-number-clause-fault : goal.returns-in_err-number-clause-fault
returns-in_err-number-clause-fault g c =
    let (p, t, shared, present, d) = c.requires.decides in
    fault_told g.D.Digester.address c.laws.ensures.chunks c.laws.ensures.records c.args.session.now c.args.look.now c.in-Some.start c.in-Some.is c.in_ok-work.work c.in_ok-work.ensures.work
    p t shared present d c.laws.ensures.drafts c.decided-made.new.work c.decided-made.ensures.grows c.tell.ensures c.from_residual-in_err-number.result c.in_err-number.field-0.0
    c.in_err-number.ensures.cause c.from_residual-in_err-number.ensures

pub committed-requires-clause-can : goal.committed-requires-clause-can
committed-requires-clause-can g c κs within =
    let (p, t, shared, present, d) = c.requires.decides in
    let can = can_decide g.D.Digester.address c.laws.ensures.chunks c.laws.ensures.records c.laws.ensures.commits c.args.session.now c.args.look.now c.in-Some.start c.in-Some.is
    c.in_ok-work.work c.in_ok-work.ensures.work p t shared present d in
    let found = can_commit g.D.Digester.address c.laws.ensures.chunks c.laws.ensures.records c.laws.ensures.commits c.args.session.now c.args.look.now c.in-Some.start c.in-Some.is
    c.in_ok-work.work c.in_ok-work.ensures.work p t shared present d c.args.request.now.staging c.decided-made.new.work c.decided-made.ensures.grows c.in_ok-number.field-0
    (c.in_ok-number.ensures.is shared.commits t.start present t.own p.variables.autocommit can) c.in-Record.rec c.in-Record.is in
    (shared.commits, found.0, found.2)

pub returns-in-Refused-clause-planned : goal.returns-in-Refused-clause-planned
returns-in-Refused-clause-planned g c = λ p t shared present own d closes.
    let address = g.D.Digester.address in
    let can = can_decide address c.laws.ensures.chunks c.laws.ensures.records c.laws.ensures.commits c.args.session.now c.args.look.now c.in-Some.start c.in-Some.is
    c.in_ok-work.work c.in_ok-work.ensures.work p t shared present d in
    subst (λ (o : BranchState). PlanIs address c.args.look.now shared.commits c.refused.result
    (closed address c.args.epoch shared.commits p t present (Committing o c.args.request.now.message)))
    (own_is address c.laws.ensures.chunks c.laws.ensures.records c.laws.ensures.commits c.args.session.now c.args.look.now c.in-Some.start c.in-Some.is
    c.in_ok-work.work c.in_ok-work.ensures.work p t shared present d c.args.request.now own closes)
    (refuses address c.laws.ensures.chunks c.laws.ensures.records c.laws.ensures.commits c.args.session.now c.args.look.now c.in-Some.start c.in-Some.is
    c.in_ok-work.work c.in_ok-work.ensures.work p t shared present d c.args.request.now.staging c.decided-made.new.work c.decided-made.ensures.grows c.in_ok-number.field-0
    (c.in_ok-number.ensures.is shared.commits t.start present t.own p.variables.autocommit can) c.args.epoch c.args.request.now.message c.in-Refused.number c.refused.result c.in-Refused.is
    c.refused.ensures)

pub returns-in-Record-clause-planned : goal.returns-in-Record-clause-planned
returns-in-Record-clause-planned g c = λ p t shared present own d closes.
    let address = g.D.Digester.address in
    let can = can_decide address c.laws.ensures.chunks c.laws.ensures.records c.laws.ensures.commits c.args.session.now c.args.look.now c.in-Some.start c.in-Some.is
    c.in_ok-work.work c.in_ok-work.ensures.work p t shared present d in
    let told = c.in_ok-number.ensures.is shared.commits t.start present t.own p.variables.autocommit can in
    let found = can_commit address c.laws.ensures.chunks c.laws.ensures.records c.laws.ensures.commits c.args.session.now c.args.look.now c.in-Some.start c.in-Some.is
    c.in_ok-work.work c.in_ok-work.ensures.work p t shared present d c.args.request.now.staging c.decided-made.new.work c.decided-made.ensures.grows c.in_ok-number.field-0
    told c.in-Record.rec c.in-Record.is in
    let state = found.0 in
    let made = subst (λ (e : ℤ). IfOk c.committed.result (λ plan. IsCommitted address c.decided-made.new.work
    (commit_on shared.commits e c.args.session.now.name state.staged (parents_on c.args.look.now.rec.head state) c.args.request.now.message) c.in-Record.rec plan))
    (to_z-of_z w64 c.args.epoch c.ranges.epoch) (c.committed.ensures.planned shared.commits state found.2) in
    subst (λ (o : BranchState). IfOk c.committed.result (λ plan. PlanIs address c.args.look.now shared.commits plan
    (closed address c.args.epoch shared.commits p t present (Committing o c.args.request.now.message))))
    (own_is address c.laws.ensures.chunks c.laws.ensures.records c.laws.ensures.commits c.args.session.now c.args.look.now c.in-Some.start c.in-Some.is
    c.in_ok-work.work c.in_ok-work.ensures.work p t shared present d c.args.request.now own closes)
    (plans_told address c.laws.ensures.chunks c.laws.ensures.records c.laws.ensures.commits c.args.session.now c.args.look.now c.in-Some.start c.in-Some.is
    c.in_ok-work.work c.in_ok-work.ensures.work p t shared present d c.args.request.now.staging c.decided-made.new.work c.decided-made.ensures.grows c.in_ok-number.field-0
    told c.in-Record.rec c.in-Record.is c.laws.ensures.drafts c.laws.ensures.databases c.args.epoch c.args.request.now.message state found.2 found.1
    c.committed.result made)
