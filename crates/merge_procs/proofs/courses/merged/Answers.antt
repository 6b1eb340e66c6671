use Rattle.std.proofs.Common.{◌∙◌, ap, subst, [], codes, List, ℕ}
use Rattle.tuple_codec.specs.declared.records.BranchRecord.{BranchRecord}
use Rattle.plain_sessions.specs.Merging.{base_root, merge_reply, merged_with}
use Rattle.plain_sessions.specs.Records.{root_of}
use Rattle.plain_sessions.specs.Sessions.{own_root}
use Rattle.chunk_store.specs.Drafts.{chunks_of}
use Rattle.merge_procs.specs.Databases.{IsMet}
use Rattle.merge_procs.specs.Planning.{message_on}
use Rattle.merge_procs.specs.declared.databases.Met.{Met}
use Rattle.merge_procs.specs.declared.steps.Step.TheVariants as step
use Rattle.merge_procs.proofs.PlanningLemmas.{fit_parts}
use Rattle.merge_procs.proofs.StepLemmas.{closes_clean, opens, own_stands, refuses_merged, three_roots}
use Rattle.merge_procs.proofs.courses.merged.Goals as goal

pub returns-in-Refused-clause-course : goal.returns-in-Refused-clause-course
returns-in-Refused-clause-course g c = λ p t stands there three.
    let address = g.D.Digester.address in
    let session = c.args.session.now in
    refuses_merged address (chunks_of session.draft.chunks) (chunks_of c.meet.new.draft.chunks) p t c.args.request.now c.args.three.now c.in-Refused.number three
    (subst (λ (m : Met). IsMet address (chunks_of c.meet.new.draft.chunks) m (merged_with t c.args.three.now.other.0)) c.in-Refused.is
    (c.in_ok-number.ensures.is (base_root t c.args.three.now.other.0) (own_root t) (root_of t.commits c.args.three.now.other.0)
    (three_roots address (chunks_of session.draft.chunks) t c.args.request.now c.args.three.now three)))

pub returns-in_ok-message-in-Clean-clause-course : goal.returns-in_ok-message-in-Clean-clause-course
returns-in_ok-message-in-Clean-clause-course g c = λ p t stands there three.
    let address = g.D.Digester.address in
    let session = c.args.session.now in
    closes_clean address (chunks_of session.draft.chunks) (chunks_of c.meet.new.draft.chunks) p t c.args.request.now c.args.three.now c.in-Clean.root c.in_ok-message-in-Clean.message three
    (subst (λ (m : Met). IsMet address (chunks_of c.meet.new.draft.chunks) m (merged_with t c.args.three.now.other.0)) c.in-Clean.is
    (c.in_ok-number.ensures.is (base_root t c.args.three.now.other.0) (own_root t) (root_of t.commits c.args.three.now.other.0)
    (three_roots address (chunks_of session.draft.chunks) t c.args.request.now c.args.three.now three)))
    (c.in_ok-message-in-Clean.ensures.message ∙ ap (λ (branch : List ℕ). message_on branch c.args.request.now) stands.branch)

pub returns-in_ok-message-in-Clean-clause-short : goal.returns-in_ok-message-in-Clean-clause-short
returns-in_ok-message-in-Clean-clause-short g c = λ fit.
    let parts = fit_parts c.args.request.now fit in c.in_ok-message-in-Clean.ensures.few parts.0 parts.1

pub returns-in_ok-step-in-Open-clause-course : goal.returns-in_ok-step-in-Open-clause-course
returns-in_ok-step-in-Open-clause-course g c = λ p t stands there three.
    let address = g.D.Digester.address in
    let session = c.args.session.now in
    opens address session.draft c.meet.new.draft session.own p t c.args.request.now c.args.three.now c.in-Open.working c.in_ok-step-in-Open.step
    c.laws.ensures.drafts c.laws.ensures.growth c.laws.ensures.records (own_stands address session p t stands there) three c.in_ok-number.ensures.grows
    (subst (λ (m : Met). IsMet address (chunks_of c.meet.new.draft.chunks) m (merged_with t c.args.three.now.other.0)) c.in-Open.is
    (c.in_ok-number.ensures.is (base_root t c.args.three.now.other.0) (own_root t) (root_of t.commits c.args.three.now.other.0)
    (three_roots address (chunks_of session.draft.chunks) t c.args.request.now c.args.three.now three)))
    (c.in_ok-step-in-Open.ensures ∙ ap (λ (r : BranchRecord). step.Made (record { rec = r; reply = merge_reply [] 0 1 (codes "conflicts found") })) c.in_progress-rec.ensures)
