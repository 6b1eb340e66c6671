use Rattle.std.proofs.Common.{◌≡◌, ℤ, subst, sym, w64, Ok}
use Rattle.std.specs.Prelude.{IfOk}
use Rattle.std.proofs.lemmas.Int.{to_z-of_z}
use Rattle.chunk_store.specs.Drafts.{chunks_of}
use Rattle.sql_procedures.specs.declared.requests.MergeRequest.{MergeRequest}
use Rattle.plain_sessions.specs.Merging.{Closes, Ending, Joining, merge_message}
use Rattle.plain_sessions.specs.Moments.{closed}
use Rattle.plain_sessions.specs.Statements.{worked}
use Rattle.plain_sessions.specs.declared.commands.Work.TheVariants as call
use Rattle.shared_db.specs.Plans.{PlanIs}
use Rattle.merge_procs.specs.Ways.{IsWay}
use Rattle.merge_procs.specs.declared.ways.Way.{Way}
use Rattle.merge_procs.proofs.PlanningLemmas.{is_forwarding, is_joining}
use Rattle.merge_procs.proofs.planning.plan_merge.Goals as goal

pub plan_forward-requires-clause-decides : goal.plan_forward-requires-clause-decides
plan_forward-requires-clause-decides g c κs within =
    let (p, t, shared, present, d) = c.requires.decides in
    let leads = subst (λ (w : Way). IsWay g.D.Digester.address (chunks_of c.args.session.now.draft.chunks) t c.in-Merge.merge w) c.in-Forward.is
    (c.in_ok-other.ensures p t d.session_stands d.transaction) in (p, t, shared, present, d, leads.0)

pub plan_join-requires-clause-decides : goal.plan_join-requires-clause-decides
plan_join-requires-clause-decides g c κs within =
    let (p, t, shared, present, d) = c.requires.decides in
    let leads = subst (λ (w : Way). IsWay g.D.Digester.address (chunks_of c.args.session.now.draft.chunks) t c.in-Merge.merge w) c.in-Merge-2.is
    (c.in_ok-other.ensures p t d.session_stands d.transaction) in (p, t, shared, present, d, leads)

pub returns-in-Forward-clause-planned : goal.returns-in-Forward-clause-planned
returns-in-Forward-clause-planned g c = λ p t shared present ending d closes.
    let address = g.D.Digester.address in
    let found = chunks_of c.args.session.now.draft.chunks in
    let asked = subst (λ (r : MergeRequest). worked p t (call.Merge r) ≡ Ok (Closes ending)) c.in-Merge.is closes in
    let leads = subst (λ (w : Way). IsWay address found t c.in-Merge.merge w) c.in-Forward.is (c.in_ok-other.ensures p t d.session_stands d.transaction) in
    subst (λ (e : Ending). IfOk c.plan_forward.result (λ plan. PlanIs address c.args.look.now shared.commits plan (closed address c.args.epoch shared.commits p t present e)))
    (sym (is_forwarding address found p t c.in-Merge.merge ending asked c.in-Forward.other leads)) (c.plan_forward.ensures.planned p t shared present d leads.0)

pub returns-in-Merge-2-clause-planned : goal.returns-in-Merge-2-clause-planned
returns-in-Merge-2-clause-planned g c = λ p t shared present ending d closes.
    let address = g.D.Digester.address in
    let found = chunks_of c.args.session.now.draft.chunks in
    let asked = subst (λ (r : MergeRequest). worked p t (call.Merge r) ≡ Ok (Closes ending)) c.in-Merge.is closes in
    let leads = subst (λ (w : Way). IsWay address found t c.in-Merge.merge w) c.in-Merge-2.is (c.in_ok-other.ensures p t d.session_stands d.transaction) in
    let clean = is_joining address found p t c.in-Merge.merge ending asked c.in-Merge-2.three leads in
    let made = subst (λ (e : ℤ). IfOk c.plan_join.result (λ plan. PlanIs address c.args.look.now shared.commits plan
    (closed address e shared.commits p t present (Joining clean.0.database c.in-Merge-2.three.other.0 (merge_message p c.in-Merge.merge)))))
    (to_z-of_z w64 c.args.epoch c.ranges.epoch) (c.plan_join.ensures.planned p t shared present clean.0 d leads clean.1) in
    subst (λ (e : Ending). IfOk c.plan_join.result (λ plan. PlanIs address c.args.look.now shared.commits plan (closed address c.args.epoch shared.commits p t present e)))
    (sym clean.2) made
