use Rattle.std.proofs.Common.{ℤ, subst, sym, w64}
use Rattle.std.specs.Prelude.{IfOk}
use Rattle.std.proofs.lemmas.Int.{to_z-of_z}
use Rattle.chunk_store.specs.Drafts.{chunks_of}
use Rattle.plain_sessions.specs.Merging.{Ending}
use Rattle.plain_sessions.specs.Moments.{closed}
use Rattle.shared_db.specs.Plans.{PlanIs}
use Rattle.merge_procs.specs.Courses.{IsClosing, IsShort}
use Rattle.merge_procs.specs.declared.courses.Closing.{Closing}
use Rattle.merge_procs.proofs.planning.plan_closing.Goals as goal

pub plan_forward-requires-clause-decides : goal.plan_forward-requires-clause-decides
plan_forward-requires-clause-decides g c κs within =
    let (p, t, shared, present, ending, d, is) = c.requires.decides in
    let found = subst (λ (f : Closing). IsClosing g.D.Digester.address (chunks_of c.args.session.now.draft.chunks) t.commits f ending) c.in-Forward.is is in (p, t, shared, present, d, found.1)

pub plan_joined-requires-clause-decides : goal.plan_joined-requires-clause-decides
plan_joined-requires-clause-decides g c κs within =
    let (p, t, shared, present, ending, d, is) = c.requires.decides in
    let found = subst (λ (f : Closing). IsClosing g.D.Digester.address (chunks_of c.args.session.now.draft.chunks) t.commits f ending) c.in-Join.is is in (p, t, shared, present, ending, d, found)

pub plan_joined-requires-clause-short : goal.plan_joined-requires-clause-short
plan_joined-requires-clause-short g c κs within = subst IsShort c.in-Join.is c.requires.short

pub returns-in-Forward-clause-planned : goal.returns-in-Forward-clause-planned
returns-in-Forward-clause-planned g c = λ p t shared present ending d is.
    let address = g.D.Digester.address in
    let found = subst (λ (f : Closing). IsClosing address (chunks_of c.args.session.now.draft.chunks) t.commits f ending) c.in-Forward.is is in
    subst (λ (e : Ending). IfOk c.plan_forward.result (λ plan. PlanIs address c.args.look.now shared.commits plan (closed address c.args.epoch shared.commits p t present e))) (sym found.0)
    (c.plan_forward.ensures.planned p t shared present d found.1)

pub returns-in-Join-clause-planned : goal.returns-in-Join-clause-planned
returns-in-Join-clause-planned g c = λ p t shared present ending d is.
    let address = g.D.Digester.address in
    let found = subst (λ (f : Closing). IsClosing address (chunks_of c.args.session.now.draft.chunks) t.commits f ending) c.in-Join.is is in
    subst (λ (e : ℤ). IfOk c.plan_joined.result (λ plan. PlanIs address c.args.look.now shared.commits plan (closed address e shared.commits p t present ending)))
    (to_z-of_z w64 c.args.epoch c.ranges.epoch) (c.plan_joined.ensures.planned p t shared present ending d found)
