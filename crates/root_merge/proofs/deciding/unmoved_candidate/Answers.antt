use Rattle.std.proofs.Common.{subst, sym}
use Rattle.std.specs.Prelude.{IfOk}
use Rattle.chunk_store.specs.Drafts.{chunks_of}
use Rattle.expr_eval.specs.Binding.{Outcome}
use Rattle.plain_sessions.specs.Records.{BranchState}
use Rattle.root_merge.specs.Deciding.{set}
use Rattle.root_merge.specs.States.{IsCandidate}
use Rattle.root_merge.proofs.DecideLemmas.{unmoved_decided}
use Rattle.root_merge.proofs.deciding.unmoved_candidate.Goals as goal

pub judged-requires-clause-settled : goal.judged-requires-clause-settled
judged-requires-clause-settled g c κs within = c.new-settled.ensures g.D.Digester.address (chunks_of c.args.draft.now.chunks)

pub returns : goal.returns
returns g c = record {
  is = λ s p o autocommit same stands.
      subst (λ (outcome : Outcome BranchState). IfOk c.judged.result (λ made. IsCandidate g.D.Digester.address (chunks_of c.args.draft.now.chunks) made outcome))
      (sym (unmoved_decided s p o (set autocommit c.args.allow c.args.force) same)) (c.judged.ensures.is o autocommit stands);
}
