use Rattle.std.proofs.Common.{◌≤◌, ◌∙◌, ap, subst, sym}
use Rattle.std.proofs.lemmas.Result.{IfErr-weaker}
use Rattle.tuple_codec.proofs.Options.{some_there}
use Rattle.chunk_store.specs.Clashes.{IsReason}
use Rattle.chunk_store.specs.Drafts.{Drafting, chunks_of, pages_in}
use Rattle.plain_sessions.specs.Replies.{is_refusal}
use Rattle.plain_sessions.specs.Statements.{worked}
use Rattle.script_text.specs.Collisions.{IsFault}
use Rattle.merge_procs.specs.Steps.{is_made_by}
use Rattle.merge_procs.proofs.BackLemmas.{grown_stands, same_but, step_back, still_grows, undone, unmade, with_draft}
use Rattle.merge_procs.proofs.ClosingLemmas.{fails_truly}
use Rattle.merge_procs.proofs.local.merge_local.Goals as goal

pub settle-requires-clause-stands : goal.settle-requires-clause-stands
settle-requires-clause-stands g c κs within =
    let (p, t, stands, there) = c.requires.stands in
    let laws = c.laws.ensures in
    let old = c.args.session.now in
    let mid = c.worked-step.new.session in
    let grows = still_grows laws.drafts laws.growth old.draft mid.draft c.go_back.new.draft c.mark-mark.result.own c.is_made.result c.mark-mark.ensures.own c.worked-step.ensures.grows c.go_back.ensures in (
      p,
      t,
      c.args.asked.now,
      grown_stands g.D.Digester.address old (with_draft mid c.go_back.new.draft) p laws.chunks laws.drafts laws.growth laws.records laws.transactions
          (same_but old mid c.go_back.new.draft c.worked-step.ensures.same) grows stands,
      there,
      step_back g.D.Digester.address mid.draft c.go_back.new.draft c.mark-mark.result.own c.is_made.result t.commits (worked p t c.args.asked.now) c.worked-step.result c.go_back.ensures c.is_made.ensures
          (c.worked-step.ensures.is p t stands there),
    )

pub settle-requires-clause-fault : goal.settle-requires-clause-fault
settle-requires-clause-fault g c κs within =
    let (p, t, stands, there) = c.requires.stands in
    let laws = c.laws.ensures in
    let mid = c.worked-step.new.session in
    IfErr-weaker c.worked-step.result (IsReason g.D.Digester.address (chunks_of mid.draft.chunks)) (IsFault g.D.Digester.address)
    (λ fault reason. fails_truly g.D.Digester.address c.args.session.now.draft mid.draft fault laws.chunks laws.drafts laws.growth stands.named c.tell.ensures c.worked-step.ensures.grows reason)
    c.worked-step.ensures.cause

pub returns-clause-alone : goal.returns-clause-alone
returns-clause-alone g c = λ p stands inside.
    let (t, there) = some_there p.transaction inside in
    let laws = c.laws.ensures in
    let old = c.args.session.now in
    let mid = c.worked-step.new.session in
    let grows = still_grows laws.drafts laws.growth old.draft mid.draft c.go_back.new.draft c.mark-mark.result.own c.is_made.result c.mark-mark.ensures.own c.worked-step.ensures.grows c.go_back.ensures in
    c.settle.ensures.alone p t c.args.asked.now
    (grown_stands g.D.Digester.address old (with_draft mid c.go_back.new.draft) p laws.chunks laws.drafts laws.growth laws.records laws.transactions
    (same_but old mid c.go_back.new.draft c.worked-step.ensures.same) grows stands)
    there
    (step_back g.D.Digester.address mid.draft c.go_back.new.draft c.mark-mark.result.own c.is_made.result t.commits (worked p t c.args.asked.now) c.worked-step.result c.go_back.ensures c.is_made.ensures
    (c.worked-step.ensures.is p t stands there))

pub returns-clause-base : goal.returns-clause-base
returns-clause-base g c =
    let laws = c.laws.ensures in
    ap (λ (d : Drafting). d.chunks.base) c.settle.ensures.draft
    ∙ (still_grows laws.drafts laws.growth c.args.session.now.draft c.worked-step.new.session.draft c.go_back.new.draft c.mark-mark.result.own c.is_made.result c.mark-mark.ensures.own
    c.worked-step.ensures.grows c.go_back.ensures).base

pub returns-clause-pages : goal.returns-clause-pages
returns-clause-pages g c =
    let laws = c.laws.ensures in
    subst (λ (d : Drafting). pages_in c.args.session.now.draft ≤ pages_in d) (sym c.settle.ensures.draft)
    (still_grows laws.drafts laws.growth c.args.session.now.draft c.worked-step.new.session.draft c.go_back.new.draft c.mark-mark.result.own c.is_made.result c.mark-mark.ensures.own
    c.worked-step.ensures.grows c.go_back.ensures).pages

pub returns-clause-same : goal.returns-clause-same
returns-clause-same g c = λ refused.
    c.settle.ensures.same refused ∙ same_but c.args.session.now c.worked-step.new.session c.go_back.new.draft c.worked-step.ensures.same
    ∙ ap (λ (d : Drafting). with_draft c.args.session.now d) (sym c.settle.ensures.draft)

pub returns-clause-draft : goal.returns-clause-draft
returns-clause-draft g c = λ refused.
    let laws = c.laws.ensures in
    ap (λ (d : Drafting). d.chunks) c.settle.ensures.draft
    ∙ undone laws.drafts laws.growth c.args.session.now.draft c.worked-step.new.session.draft c.go_back.new.draft c.mark-mark.result.own c.is_made.result c.mark-mark.ensures.own
    c.worked-step.ensures.grows c.go_back.ensures
    (c.is_made.ensures ∙ unmade (is_made_by c.worked-step.result) (is_refusal c.settle.result) c.settle.ensures.made refused)
