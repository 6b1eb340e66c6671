use Rattle.std.proofs.Common.{◌∙◌, ap, refl, subst, sym}
use Rattle.chunk_store.specs.Drafts.{Drafting}
use Rattle.script_text.specs.Collisions.{TellsTruly}
use Rattle.script_text.specs.declared.replies.Reply.{Reply}
use Rattle.session_plan.specs.Showing.{is_sound_reply}
use Rattle.plain_sessions.specs.Branching.{checkout_name, switched_to}
use Rattle.plain_sessions.specs.declared.commands.Command.TheVariants as command
use Rattle.shared_history.specs.Meeting.{Tells}
use Rattle.serving.specs.Branching.{Went}
use Rattle.serving.proofs.BranchLemmas.{arrived_at, checkout_went, plainly_own, row_at, step_sound, step_truly, stepped_moment, stepped_own, steps_holds}
use Rattle.serving.proofs.FoundLemmas.{before_found, counted_in, holds_still, on_err, placed_in, waits_free}
use Rattle.serving.proofs.branching.go_to.Goals as goal

pub branch_step-ended-requires-clause-free : goal.branch_step-ended-requires-clause-free
branch_step-ended-requires-clause-free g c = c.requires.before.1.at.seated.free

pub branch_step-ended-requires-clause-placed : goal.branch_step-ended-requires-clause-placed
branch_step-ended-requires-clause-placed g c =
    placed_in g.D.Digester.address c.args.session.now (g.T.Meeting.tells c.args.meeting.now) c.requires.before.0 c.requires.before.1.at

pub returns-clause-went : goal.returns-clause-went
returns-clause-went g c = λ epoch p before unchanged.
    let address = g.D.Digester.address in
    let session = c.args.session.now in
    let asked = command.Checkout c.args.request.now in
    let m : Tells = g.T.Meeting.tells c.args.meeting.now in
    let n : Tells = g.T.Meeting.tells c.branch_step-ended.new.self in
    let taken = c.step_of_checkout-step.result in
    let answer = c.branch_step-ended.result in
    let steps = c.branch_step-ended.ensures.stepped in
    stepped_moment address m n taken answer steps (λ found shared left. Went address epoch p asked shared found left c.arrive.new.session _) (λ shared stands.
    subst (λ (reply : Reply). Went address epoch p asked shared steps.found steps.left c.arrive.new.session reply) (sym c.step_reply.ensures)
    (checkout_went c.law_of_steps.ensures address session c.arrive.new.session steps.found steps.left m.statement taken answer c.in_ok-row.row c.args.request.now c.step_of_checkout-step.ensures
    (row_at c.in_ok-row.row c.bytes.result.now c.checkout_name-branch.result (checkout_name c.args.request.now) c.in_ok-row.ensures c.bytes.ensures.bytes c.checkout_name-branch.ensures)
    (counted_in address session m p before.at) (stepped_own address m n taken answer steps session.number before.at.seated.number)
    (plainly_own address m n taken answer steps session.number before.at.seated.number)
    (arrived_at session c.arrive.new.session c.checkout_name-branch.result (checkout_name c.args.request.now) answer c.checkout_name-branch.ensures c.arrive.ensures.done) c.arrive.ensures.same
    (ap (λ (draft : Drafting). draft.chunks.base) c.arrive.ensures.draft) epoch p shared (before_found address session m p before steps.found steps.is shared stands) unchanged))

pub returns-clause-sound : goal.returns-clause-sound
returns-clause-sound g c =
    ap is_sound_reply c.step_reply.ensures ∙ step_sound c.in_ok-row.row (switched_to c.bytes.result.now) c.branch_step-ended.result c.in_ok-row.ensures refl

pub returns-clause-truly : goal.returns-clause-truly
returns-clause-truly g c =
    subst (TellsTruly g.D.Digester.address) (sym c.step_reply.ensures) (step_truly g.D.Digester.address c.in_ok-row.row c.branch_step-ended.result)

pub returns-clause-holds : goal.returns-clause-holds
returns-clause-holds g c =
    steps_holds g.D.Digester.address (g.T.Meeting.tells c.args.meeting.now) (g.T.Meeting.tells c.branch_step-ended.new.self) c.step_of_checkout-step.result c.branch_step-ended.result
    c.branch_step-ended.ensures.stepped

pub returns-in_err-row-clause-waits : goal.returns-in_err-row-clause-waits
returns-in_err-row-clause-waits g c = on_err c.from_residual.result _ (waits_free (g.T.Meeting.tells c.args.meeting.now) c.requires.before.1.at.seated.free)

pub returns-in_err-row-clause-holds : goal.returns-in_err-row-clause-holds
returns-in_err-row-clause-holds g c = holds_still (g.T.Meeting.tells c.args.meeting.now)
