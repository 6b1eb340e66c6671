use Rattle.std.proofs.Common.{◌∙◌, Ok, ap, subst}
use Rattle.chunk_store.specs.Drafts.{chunks_of}
use Rattle.plain_sessions.specs.Replies.{is_refusal}
use Rattle.plain_sessions.specs.Statements.{worked}
use Rattle.merge_procs.proofs.ClosingLemmas.{comes_back, looked_stands}
use Rattle.merge_procs.specs.Steps.{is_made}
use Rattle.serving.specs.Closing.{IsCourse, leads_on}
use Rattle.serving.specs.declared.courses.Course.{Course}
use Rattle.serving.proofs.ComingLemmas.{faulted_alone, none_made, refused_alone, stands_again}
use Rattle.serving.proofs.SettlingLemmas.{open_there, waits_in}
use Rattle.serving.proofs.coming.closing_at_once.Goals as goal

-- src/coming.rt
pub take_step-requires-after_bounds : goal.take_step-requires-after_bounds
take_step-requires-after_bounds g c κs within =
    let address = g.D.Digester.address in
    let p = c.requires.stands.0 in
    let held = open_there address c.args.session.now c.if-is_none.ensures p c.requires.stands.1 in (
      p,
      held.0,
      c.args.asked.now,
      c.in-Ok-Stays.ensures.stands p c.requires.stands.1,
      held.1,
      subst (λ (course : Course). IsCourse address (chunks_of c.find_course.new.session.draft.chunks) held.0.commits course c.args.asked.now (worked p held.0 c.args.asked.now)) c.in-Ok-Stays.field-0-is
          (c.in-Ok-Stays.ensures.course p held.0 c.requires.stands.1 held.1),
    )

pub returns-in-Ok-Closes-clause-waits : goal.returns-in-Ok-Closes-clause-waits
returns-in-Ok-Closes-clause-waits g c = λ same p stands.
    let address = g.D.Digester.address in
    let old = c.args.session.now in
    let mid = c.find_course.new.session in
    let held = open_there address old c.if-is_none.ensures p stands in
    let so = subst (λ (course : Course). IsCourse address (chunks_of mid.draft.chunks) held.0.commits course c.args.asked.now (worked p held.0 c.args.asked.now)) c.in-Ok-Closes.field-0-is
    (c.in-Ok-Closes.ensures.course p held.0 stands held.1) in (
      waits_in p held.0 c.args.asked.now held.1 so.0 so.1,
      looked_stands address old (record mid { draft = c.back_to.new.self }) p
          (stands_again address old mid c.back_to.new.self c.mark-mark.result.own c.law_of_drafts.ensures c.law_of_growth.ensures c.mark-mark.ensures.own c.find_course.ensures.same c.find_course.ensures.grows
          c.back_to.ensures.chunks c.back_to.ensures.segments) stands,
    )

pub returns-in-Ok-Closes-clause-draft : goal.returns-in-Ok-Closes-clause-draft
returns-in-Ok-Closes-clause-draft g c = λ undone.
    comes_back c.args.session.now.draft c.find_course.new.session.draft c.back_to.new.self c.mark-mark.result.own c.law_of_drafts.ensures c.law_of_growth.ensures c.mark-mark.ensures.own
    c.find_course.ensures.grows c.back_to.ensures.chunks

pub returns-in-Ok-Stays-clause-alone : goal.returns-in-Ok-Stays-clause-alone
returns-in-Ok-Stays-clause-alone g c = λ p stands.
    let address = g.D.Digester.address in
    let held = open_there address c.args.session.now c.if-is_none.ensures p stands in
    c.take_step.ensures.alone p held.0 c.args.asked.now (c.in-Ok-Stays.ensures.stands p stands) held.1
    (subst (λ (course : Course). IsCourse address (chunks_of c.find_course.new.session.draft.chunks) held.0.commits course c.args.asked.now (worked p held.0 c.args.asked.now)) c.in-Ok-Stays.field-0-is
    (c.in-Ok-Stays.ensures.course p held.0 stands held.1))

pub returns-in-Ok-Stays-clause-draft : goal.returns-in-Ok-Stays-clause-draft
returns-in-Ok-Stays-clause-draft g c = λ refused.
    ap (λ d. d.chunks) c.take_step.ensures.draft
    ∙ c.find_course.ensures.back
    (ap leads_on c.in-Ok-Stays.is ∙ ap (λ (course : Course). leads_on (Ok course)) c.in-Ok-Stays.field-0-is ∙ none_made (is_made c.in-Ok-Stays.step) (is_refusal c.take_step.result) c.take_step.ensures.made refused)

pub returns-in-Ok-Refused-clause-alone : goal.returns-in-Ok-Refused-clause-alone
returns-in-Ok-Refused-clause-alone g c = λ p stands.
    let address = g.D.Digester.address in
    let held = open_there address c.args.session.now c.if-is_none.ensures p stands in
    refused_alone address c.find_course.new.session p held.0 c.args.asked.now held.1 c.in-Ok-Refused.number c.due.result
    (subst (λ (course : Course). IsCourse address (chunks_of c.find_course.new.session.draft.chunks) held.0.commits course c.args.asked.now (worked p held.0 c.args.asked.now)) c.in-Ok-Refused.field-0-is
    (c.in-Ok-Refused.ensures.course p held.0 stands held.1))
    c.due.ensures.due (c.find_course.ensures.stands p stands)

pub returns-clause-alone : goal.returns-clause-alone
returns-clause-alone g c = λ p stands.
    let address = g.D.Digester.address in
    let held = open_there address c.args.session.now c.if-is_none.ensures p stands in
    faulted_alone address c.find_course.new.session p held.0 c.args.asked.now held.1 c.in-Err.fault c.reply_to.result c.reply_to.ensures.reply (c.find_course.ensures.stands p stands)
