use Rattle.std.proofs.Common.{subst, sym}
use Rattle.std.specs.Prelude.{IfOk}
use Rattle.chunk_store.specs.Drafts.{chunks_of}
use Rattle.plain_sessions.specs.Statements.{worked}
use Rattle.plain_sessions.specs.declared.commands.Work.{Work}
use Rattle.merge_procs.specs.Steps.{IsStep}
use Rattle.merge_procs.proofs.StepLemmas.{has_own, own_stands}
use Rattle.merge_procs.proofs.local.worked.Goals as goal

pub returns-in-Merge-clause-is : goal.returns-in-Merge-clause-is
unfolding worked
returns-in-Merge-clause-is g c = λ p t stands there.
    subst (λ (w : Work). IfOk c.merged.result (λ s. IsStep g.D.Digester.address (chunks_of c.merged.new.session.draft.chunks) t.commits s (worked p t w))) (sym c.in-Merge.is)
    (c.merged.ensures.is p t stands there)

pub returns-in-Resolve-clause-is : goal.returns-in-Resolve-clause-is
unfolding worked
returns-in-Resolve-clause-is g c = λ p t stands there.
    subst (λ (w : Work). IfOk c.resolved.result (λ s. IsStep g.D.Digester.address (chunks_of c.resolved.new.draft.chunks) t.commits s (worked p t w))) (sym c.in-Resolve.is)
    (c.resolved.ensures.is t.commits t.own (own_stands g.D.Digester.address c.args.session.now p t stands there))

pub returns-in-Verify-clause-is : goal.returns-in-Verify-clause-is
unfolding worked
returns-in-Verify-clause-is g c = λ p t stands there.
    subst (λ (w : Work). IfOk c.verified.result (λ s. IsStep g.D.Digester.address (chunks_of c.verified.new.draft.chunks) t.commits s (worked p t w))) (sym c.in-Verify.is)
    (c.verified.ensures.is t.commits t.own (own_stands g.D.Digester.address c.args.session.now p t stands there))

pub resolved-requires-after_bounds : goal.resolved-requires-after_bounds
resolved-requires-after_bounds g c κs within = has_own g.D.Digester.address c.args.session.now c.requires.stands

pub verified-requires-after_bounds : goal.verified-requires-after_bounds
verified-requires-after_bounds g c κs within = has_own g.D.Digester.address c.args.session.now c.requires.stands
