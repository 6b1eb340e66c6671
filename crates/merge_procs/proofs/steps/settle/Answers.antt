use Rattle.std.proofs.Common.{◌≡◌, ◌∙◌, ap, sym, subst, true, true≢false, Result}
use Rattle.std.specs.Prelude.{IfErr, IfOk}
use Rattle.chunk_store.specs.Drafts.{chunks_of}
use Rattle.chunk_store.specs.declared.faults.PutFault.{PutFault}
use Rattle.plain_sessions.specs.Statements.{worked}
use Rattle.script_text.specs.Collisions.{IsFault}
use Rattle.merge_procs.specs.Steps.{IsStep, is_made_by}
use Rattle.merge_procs.specs.declared.steps.Step.{Step}
use Rattle.merge_procs.proofs.StepLemmas.{fault_answers, fault_truly}
use Rattle.merge_procs.proofs.steps.settle.Goals as goal

pub take_step-requires-after_bounds : goal.take_step-requires-after_bounds
take_step-requires-after_bounds g c κs within =
    let (p, t, asked, stands, there, is) = c.requires.stands in
    let step = subst (λ (r : Result Step PutFault). IfOk r (λ s. IsStep g.D.Digester.address (chunks_of c.args.session.now.draft.chunks) t.commits s (worked p t asked))) c.in-Ok.is is in
    (p, t, asked, stands, there, step)

pub returns-in-Ok-clause-alone : goal.returns-in-Ok-clause-alone
returns-in-Ok-clause-alone g c = λ p t asked stands there is.
    c.take_step.ensures.alone p t asked stands there
    (subst (λ (r : Result Step PutFault). IfOk r (λ s. IsStep g.D.Digester.address (chunks_of c.args.session.now.draft.chunks) t.commits s (worked p t asked))) c.in-Ok.is is)

pub returns-in-Ok-clause-made : goal.returns-in-Ok-clause-made
returns-in-Ok-clause-made g c = λ made. c.take_step.ensures.made (subst (λ (r : Result Step PutFault). is_made_by r ≡ true) c.in-Ok.is made)

pub returns-in-Err-clause-alone : goal.returns-in-Err-clause-alone
returns-in-Err-clause-alone g c = λ p t asked stands there is.
    fault_answers g.D.Digester.address c.args.session.now p t asked there stands c.in-Err.fault c.fault_reply.result c.fault_reply.ensures.tells

pub returns-in-Err-clause-made : goal.returns-in-Err-clause-made
returns-in-Err-clause-made g c = λ made. absurd (true≢false (sym made ∙ ap is_made_by c.in-Err.is))

pub returns-in-Err-clause-truly : goal.returns-in-Err-clause-truly
returns-in-Err-clause-truly g c =
    fault_truly g.D.Digester.address c.in-Err.fault c.fault_reply.result c.fault_reply.ensures.tells
    (subst (λ (r : Result Step PutFault). IfErr r (IsFault g.D.Digester.address)) c.in-Err.is c.requires.fault)
