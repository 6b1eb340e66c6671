use Rattle.std.proofs.Common.{◌∙◌, sym, true≢false}
use Rattle.chunk_store.specs.Drafts.{chunks_of}
use Rattle.plain_sessions.specs.Statements.{worked}
use Rattle.script_text.specs.declared.replies.Reply.TheVariants.{Refused}
use Rattle.merge_procs.specs.declared.steps.Step.TheVariants as step
use Rattle.session_plan.proofs.ShowLemmas.{due_truly}
use Rattle.merge_procs.proofs.StepLemmas.{made_answers, plain_sound, plain_truly, refusal_answers, step_as}
use Rattle.merge_procs.proofs.steps.take_step.Goals as goal

pub returns-in-Made-clause-alone : goal.returns-in-Made-clause-alone
returns-in-Made-clause-alone g c = λ p t asked stands there is.
    made_answers g.D.Digester.address c.args.session.now p t asked there stands c.in-Made.made c.law_of_drafts.ensures c.law_of_transactions.ensures
    (step_as g.D.Digester.address (chunks_of c.args.session.now.draft.chunks) t.commits c.args.step (worked p t asked) (step.Made c.in-Made.made) c.in-Made.is is)

pub returns-in-Made-clause-made : goal.returns-in-Made-clause-made
returns-in-Made-clause-made g c = λ made.
    let (p, t, asked, stands, there, is) = c.requires in
    (step_as g.D.Digester.address (chunks_of c.args.session.now.draft.chunks) t.commits c.args.step (worked p t asked) (step.Made c.in-Made.made) c.in-Made.is is).well

pub returns-in-Made-clause-sound : goal.returns-in-Made-clause-sound
returns-in-Made-clause-sound g c =
    let (p, t, asked, stands, there, is) = c.requires in
    plain_sound c.in-Made.made.reply (step_as g.D.Digester.address (chunks_of c.args.session.now.draft.chunks) t.commits c.args.step (worked p t asked) (step.Made c.in-Made.made) c.in-Made.is is).plain

pub returns-in-Made-clause-truly : goal.returns-in-Made-clause-truly
returns-in-Made-clause-truly g c =
    let (p, t, asked, stands, there, is) = c.requires in
    plain_truly g.D.Digester.address c.in-Made.made.reply
    (step_as g.D.Digester.address (chunks_of c.args.session.now.draft.chunks) t.commits c.args.step (worked p t asked) (step.Made c.in-Made.made) c.in-Made.is is).plain

pub returns-in-Made-clause-same : goal.returns-in-Made-clause-same
returns-in-Made-clause-same g c = λ refused.
    let (p, t, asked, stands, there, is) = c.requires in
    let made = step_as g.D.Digester.address (chunks_of c.args.session.now.draft.chunks) t.commits c.args.step (worked p t asked) (step.Made c.in-Made.made) c.in-Made.is is in
    absurd (true≢false (sym refused ∙ made.well))

pub returns-in-Refused-clause-alone : goal.returns-in-Refused-clause-alone
returns-in-Refused-clause-alone g c = λ p t asked stands there is.
    refusal_answers g.D.Digester.address c.args.session.now p t asked there stands c.in-Refused.number c.due.result
    (step_as g.D.Digester.address (chunks_of c.args.session.now.draft.chunks) t.commits c.args.step (worked p t asked) (step.Refused c.in-Refused.number) c.in-Refused.is is) c.due.ensures.due

pub returns-in-Refused-clause-truly : goal.returns-in-Refused-clause-truly
returns-in-Refused-clause-truly g c = due_truly g.D.Digester.address 1 (Refused c.in-Refused.number) c.due.result c.due.ensures.due
