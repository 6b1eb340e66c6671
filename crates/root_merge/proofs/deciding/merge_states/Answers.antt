use Rattle.std.proofs.Common.{◌∙◌, IfOk, subst, sym}
use Rattle.chunk_store.specs.Drafts.{chunks_of}
use Rattle.expr_eval.specs.Binding.{Outcome}
use Rattle.plain_sessions.specs.Records.{BranchState}
use Rattle.root_merge.specs.States.{IsCandidate}
use Rattle.root_merge.proofs.DecideLemmas.{settled_merged}
use Rattle.root_merge.proofs.deciding.merge_states.Goals as goal

pub returns-clause-is : goal.returns-clause-is
returns-clause-is g c = λ s p o states.
    subst (λ (outcome : Outcome BranchState). IfOk c.merge_settled.result (λ made. IsCandidate g.D.Digester.address (chunks_of c.merge_settled.new.draft.chunks) made outcome))
    (sym (settled_merged s p o (sym (c.in_ok-unsettled.ensures.is s p o states) ∙ c.if-unsettled.false))) (c.merge_settled.ensures.is s p o states)
