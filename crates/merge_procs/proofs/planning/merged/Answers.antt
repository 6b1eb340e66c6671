use Rattle.std.proofs.Common.{ℤ, ◌∷◌, [], subst, sym, w64}
use Rattle.std.specs.Prelude.{IfOk}
use Rattle.std.proofs.lemmas.Int.{to_z-of_z}
use Rattle.chunk_store.specs.Drafts.{chunks_of}
use Rattle.plain_sessions.specs.Records.{commit_on}
use Rattle.tuple_codec.specs.declared.records.BranchRecord.{BranchRecord}
use Rattle.chunk_store.specs.Kinds.{is_data}
use Rattle.session_plan.proofs.CommittingLemmas.{fault_told}
use Rattle.session_plan.specs.Committing.{CanCommit, parents_on}
use Rattle.merge_procs.specs.Databases.{IsMet, merged_of}
use Rattle.merge_procs.specs.Planning.{IsJoined}
use Rattle.merge_procs.specs.declared.databases.Met.{Met}
use Rattle.merge_procs.proofs.DecidingLemmas.{can_commit, is_met_clean, joining_state, merged_told}
use Rattle.merge_procs.proofs.planning.merged.Goals as goal

pub returns-in_err-root-clause-fault : goal.returns-in_err-root-clause-fault
returns-in_err-root-clause-fault g c =
    let laws = c.laws.ensures in
    fault_told g.D.Digester.address laws.chunks laws.drafts c.args.work.chunks c.meet-met.new.draft.chunks c.requires.named
    (laws.growth.is_longer is_data c.args.work c.meet-met.new.draft c.meet-met.ensures.grows) c.tell.ensures c.from_residual.result c.in_err-root.field-0.0
    c.in_err-root.ensures.cause c.from_residual.ensures

pub joined-requires-clause-can : goal.joined-requires-clause-can
joined-requires-clause-can g c κs within =
    let (commits, b, o, t, can) = c.requires.can in
    let address = g.D.Digester.address in
    let after = c.meet-met.new.draft in
    let met = subst (λ (m : Met). IsMet address (chunks_of after.chunks) m (merged_of b o t)) c.in-Clean.is (c.in_ok-root.ensures.is b o t can.roots) in
    let state = joining_state c.args.head c.args.three.now.other met.0.database in (
      commits,
      state,
      subst (λ (rec : BranchRecord). CanCommit address after.chunks rec rec.head commits state) (sym c.joining.ensures)
          (can_commit address c.args.work after c.meet-met.ensures.grows c.args.head c.in-Clean.root c.args.three.now commits b o t can met.0.database met.3),
    )

pub returns-in-Clean-clause-planned : goal.returns-in-Clean-clause-planned
returns-in-Clean-clause-planned g c = λ commits b o t merged can is.
    let address = g.D.Digester.address in
    let after = c.meet-met.new.draft in
    let met = subst (λ (m : Met). IsMet address (chunks_of after.chunks) m (merged_of b o t)) c.in-Clean.is (c.in_ok-root.ensures.is b o t can.roots) in
    let kept = is_met_clean address (chunks_of after.chunks) c.in-Clean.root (merged_of b o t) met merged is in
    let state = joining_state c.args.head c.args.three.now.other merged.database in
    let able = subst (λ (rec : BranchRecord). CanCommit address after.chunks rec rec.head commits state) (sym c.joining.ensures)
    (can_commit address c.args.work after c.meet-met.ensures.grows c.args.head c.in-Clean.root c.args.three.now commits b o t can merged.database kept) in
    let joined = subst (λ (e : ℤ). IfOk c.joined.result (λ plan. IsJoined address after
    (commit_on commits e c.args.committer.now merged.database (parents_on c.joining.result.head state) c.args.message.now) c.joining.result.staged plan))
    (to_z-of_z w64 c.args.epoch c.ranges.epoch) (c.joined.ensures.planned commits state able) in
    merged_told address c.args.work after c.meet-met.ensures.grows c.in-Clean.root
    (commit_on commits c.args.epoch c.args.committer.now merged.database (c.args.head.0 ∷ c.args.three.now.other.0 ∷ []) c.args.message.now) c.joined.result kept
    (subst (λ (rec : BranchRecord). IfOk c.joined.result (λ plan. IsJoined address after
    (commit_on commits c.args.epoch c.args.committer.now merged.database (parents_on rec.head state) c.args.message.now) rec.staged plan)) c.joining.ensures joined)
