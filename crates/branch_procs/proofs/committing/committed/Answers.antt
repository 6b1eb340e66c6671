use Rattle.std.proofs.Common.{ℤ, subst, w64}
use Rattle.std.proofs.lemmas.Int.{to_z-of_z}
use Rattle.chunk_store.specs.Kinds.{is_commit}
use Rattle.plain_sessions.specs.Records.{commit_on}
use Rattle.session_plan.specs.Committing.{IsCommitWritten, parents_on}
use Rattle.branch_procs.proofs.CommittingLemmas.{committed_told}
use Rattle.session_plan.proofs.CommittingLemmas.{fault_told}
use Rattle.branch_procs.proofs.committing.committed.Goals as goal

pub returns-in_err-head-clause-fault : goal.returns-in_err-head-clause-fault
returns-in_err-head-clause-fault g c =
    let laws = c.laws.ensures in
    fault_told g.D.Digester.address laws.chunks laws.drafts c.args.work.chunks c.written-made.new.work.chunks c.requires.named
    (laws.growth.is_longer is_commit c.args.work c.written-made.new.work c.written-made.ensures.grows) c.tell.ensures c.from_residual.result c.in_err-head.field-0.0
    c.in_err-head.ensures.cause c.from_residual.ensures

pub returns-clause-planned : goal.returns-clause-planned
returns-clause-planned g c = λ commits state can.
    let address = g.D.Digester.address in
    let commit = commit_on commits c.args.epoch c.args.committer.now state.staged (parents_on c.args.present.now state) c.args.message.now in
    let written = subst (λ (e : ℤ). IsCommitWritten address c.args.work.chunks c.written-made.new.work.chunks
    (commit_on commits e c.args.committer.now state.staged (parents_on c.args.present.now state) c.args.message.now) c.in_ok-head.head)
    (to_z-of_z w64 c.args.epoch c.ranges.epoch) (c.in_ok-head.ensures.written commits state can) in
    committed_told address c.args.work c.written-made.new.work commit c.args.rec.now c.at_commit.result c.in_ok-head.head c.in_ok-reply.reply c.sealed.result written
    c.written-made.ensures.grows.segments c.tell.ensures c.at_commit.ensures c.in_ok-reply.ensures c.sealed.ensures.sealed
