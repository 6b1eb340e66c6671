use Rattle.std.proofs.Common.{ℤ, ◌∷◌, [], refl, subst, sym, w64}
use Rattle.std.specs.Prelude.{IfOk}
use Rattle.std.proofs.lemmas.Int.{to_z-of_z}
use Rattle.tuple_codec.specs.declared.records.BranchRecord.{BranchRecord}
use Rattle.chunk_store.specs.Kinds.{is_data}
use Rattle.plain_sessions.specs.Merging.{Ending}
use Rattle.plain_sessions.specs.Moments.{closed, merged_as}
use Rattle.plain_sessions.specs.Records.{commit_on}
use Rattle.session_plan.specs.Committing.{CanCommit, parents_on}
use Rattle.shared_db.specs.Plans.{PlanIs}
use Rattle.merge_procs.specs.Planning.{IsJoined}
use Rattle.merge_procs.proofs.PlanningLemmas.{refuses, start_of}
use Rattle.merge_procs.proofs.DecidingLemmas.{can_commit_found, found_kept, joining_state, merged_told, plans_joined}
use Rattle.merge_procs.proofs.planning.plan_joined.Goals as goal

pub returns-then-is_moved-clause-planned : goal.returns-then-is_moved-clause-planned
returns-then-is_moved-clause-planned g c = λ p t shared present ending d is.
    let address = g.D.Digester.address in
    let merged = c.args.merged.now in
    let commit = commit_on shared.commits c.args.epoch p.name is.database (t.own.head ∷ merged.other.0 ∷ []) merged.message in
    subst (λ (e : Ending). PlanIs address c.args.look.now shared.commits c.refused.result (closed address c.args.epoch shared.commits p t present e)) (sym is.is)
    (refuses address c.args.look.now t shared present c.is_moved.result (c.is_moved.ensures p t shared present d) (merged_as address commit) c.refused.result c.if-is_moved.true
    c.refused.ensures)

pub joined-requires-clause-can : goal.joined-requires-clause-can
joined-requires-clause-can g c κs within =
    let (p, t, shared, present, ending, d, is) = c.requires.decides in
    let address = g.D.Digester.address in
    let laws = c.laws.ensures in
    let merged = c.args.merged.now in
    let session = c.args.session.now in
    let state = joining_state session.own.head merged.other is.database in
    let (start, started) = start_of address session c.args.look.now p t shared present d in (
      shared.commits,
      state,
      subst (λ (rec : BranchRecord). CanCommit address c.in_ok-work.work.chunks rec rec.head shared.commits state) (sym c.joining.ensures)
          (can_commit_found address laws.chunks laws.records laws.commits session c.args.look.now start started c.in_ok-work.work c.in_ok-work.ensures.work p t shared present d
          laws.databases merged.root merged.other is.database is.kept is.known),
    )

pub returns-clause-planned : goal.returns-clause-planned
returns-clause-planned g c = λ p t shared present ending d is.
    let address = g.D.Digester.address in
    let laws = c.laws.ensures in
    let merged = c.args.merged.now in
    let session = c.args.session.now in
    let work = c.in_ok-work.work in
    let state = joining_state session.own.head merged.other is.database in
    let (start, started) = start_of address session c.args.look.now p t shared present d in
    let kept = found_kept address laws.chunks laws.records laws.commits session c.args.look.now start started work c.in_ok-work.ensures.work p t shared present d
    laws.databases merged.root is.database is.kept in
    let can = subst (λ (rec : BranchRecord). CanCommit address work.chunks rec rec.head shared.commits state) (sym c.joining.ensures)
    (can_commit_found address laws.chunks laws.records laws.commits session c.args.look.now start started work c.in_ok-work.ensures.work p t shared present d
    laws.databases merged.root merged.other is.database is.kept is.known) in
    let joined = subst (λ (e : ℤ). IfOk c.joined.result (λ plan. IsJoined address work
    (commit_on shared.commits e session.name is.database (parents_on c.joining.result.head state) merged.message) c.joining.result.staged plan))
    (to_z-of_z w64 c.args.epoch c.ranges.epoch) (c.joined.ensures.planned shared.commits state can) in
    let made = merged_told address work work (laws.growth.itself is_data work) merged.root
    (commit_on shared.commits c.args.epoch session.name is.database (session.own.head.0 ∷ merged.other.0 ∷ []) merged.message) c.joined.result kept
    (subst (λ (rec : BranchRecord). IfOk c.joined.result (λ plan. IsJoined address work
    (commit_on shared.commits c.args.epoch session.name is.database (parents_on rec.head state) merged.message) rec.staged plan)) c.joining.ensures joined) in
    subst (λ (e : Ending). IfOk c.joined.result (λ plan. PlanIs address c.args.look.now shared.commits plan (closed address c.args.epoch shared.commits p t present e))) (sym is.is)
    (plans_joined address laws.chunks laws.records laws.commits session c.args.look.now start started work c.in_ok-work.ensures.work p t shared present d
    laws.drafts laws.databases merged.other is.known c.args.epoch merged.message merged.message is.database refl c.is_moved.result (c.is_moved.ensures p t shared present d)
    c.if-is_moved.false c.joined.result made)
