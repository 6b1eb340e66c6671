use Rattle.std.proofs.Common.{◌∙◌, ap, sym}
use Rattle.chunk_store.specs.Drafts.{chunks_of}
use Rattle.root_merge.specs.Deciding.{refusal, set}
use Rattle.root_merge.specs.declared.settling.Left.{Left}
use Rattle.root_merge.proofs.DecideLemmas.{judged_refused, judged_well}
use Rattle.root_merge.proofs.deciding.judged.Goals as goal

pub returns-in-Some-clause-is : goal.returns-in-Some-clause-is
returns-in-Some-clause-is g c = λ state autocommit stands.
    judged_refused g.D.Digester.address (chunks_of c.args.draft.now.chunks) (set autocommit c.args.allow c.args.force) state c.in-Some.number
    (ap (λ (left : Left). refusal left.conflicts left.violations c.args.allow c.args.force) (sym (c.in_ok-left.ensures.is state stands)) ∙ sym c.refusal.ensures ∙ c.in-Some.is)

pub returns-in-None-clause-is : goal.returns-in-None-clause-is
returns-in-None-clause-is g c = λ state autocommit stands.
    judged_well g.D.Digester.address (chunks_of c.args.draft.now.chunks) (set autocommit c.args.allow c.args.force) c.args.decided state
    (ap (λ (left : Left). refusal left.conflicts left.violations c.args.allow c.args.force) (sym (c.in_ok-left.ensures.is state stands)) ∙ sym c.refusal.ensures ∙ c.in-None.is) stands
