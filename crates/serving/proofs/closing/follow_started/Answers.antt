use Rattle.std.proofs.Common.{◌∙◌, ap, refl, subst}
use Rattle.chunk_store.specs.Drafts.{DraftParts, chunks_of}
use Rattle.plain_sessions.specs.Sessions.{within}
use Rattle.plain_sessions.specs.Statements.{worked}
use Rattle.serving.specs.Closing.{IsCourse}
use Rattle.serving.proofs.ClosingLemmas.{started_on}
use Rattle.serving.proofs.SettlingLemmas.{closing_to_come, faulted_started, refused_started}
use Rattle.serving.proofs.StartLemmas.{has_answered}
use Rattle.serving.proofs.closing.follow_started.Goals as goal

pub take_step-reply-requires-after_bounds : goal.take_step-reply-requires-after_bounds
take_step-reply-requires-after_bounds g c κs within_κs =
    let held = c.requires.started in (
      within held.2 held.3,
      held.3,
      c.args.asked.now,
      c.find_course.ensures.stands (within held.2 held.3) held.5.stands,
      refl,
      subst (λ course. IsCourse g.D.Digester.address (chunks_of c.find_course.new.session.draft.chunks) held.3.commits course c.args.asked.now (worked (within held.2 held.3) held.3 c.args.asked.now)) c.in-Ok-Stays.field-0-is
          (c.in-Ok-Stays.ensures.course (within held.2 held.3) held.3 held.5.stands refl),
    )

pub end_answered-requires-clause-answered : goal.end_answered-requires-clause-answered
end_answered-requires-clause-answered g c κs within_κs =
    let held = c.requires.started in
    let address = g.D.Digester.address in
    let stands = c.find_course.ensures.stands (within held.2 held.3) held.5.stands in (
      held.0,
      held.1,
      held.2,
      c.args.asked.now,
      held.4,
      has_answered address c.find_course.new.session c.take_step-reply.new.session held.0 held.1 held.2 held.3 held.4 c.take_step-reply.result
          (started_on address c.args.session.now c.find_course.new.session held.0 held.1 held.2 held.3 held.4 held.5 stands c.find_course.ensures.grows.base)
          (ap (λ d. d.chunks.base) c.take_step-reply.ensures.draft) c.args.asked.now
          (c.take_step-reply.ensures.alone (within held.2 held.3) held.3 c.args.asked.now stands refl
          (subst (λ course. IsCourse address (chunks_of c.find_course.new.session.draft.chunks) held.3.commits course c.args.asked.now (worked (within held.2 held.3) held.3 c.args.asked.now)) c.in-Ok-Stays.field-0-is
          (c.in-Ok-Stays.ensures.course (within held.2 held.3) held.3 held.5.stands refl))),
    )

pub returns-in-Ok-Closes-clause-met : goal.returns-in-Ok-Closes-clause-met
returns-in-Ok-Closes-clause-met g c = λ epoch parts now p t shared has.
    let address = g.D.Digester.address in
    let so = subst (λ course. IsCourse address (chunks_of c.find_course.new.session.draft.chunks) t.commits course c.args.asked.now (worked (within p t) t c.args.asked.now)) c.in-Ok-Closes.field-0-is
    (c.in-Ok-Closes.ensures.course (within p t) t has.stands refl) in
    closing_to_come address epoch c.find_course.new.session parts now p t shared
    (started_on address c.args.session.now c.find_course.new.session parts now p t shared has (c.find_course.ensures.stands (within p t) has.stands) c.find_course.ensures.grows.base)
    c.args.asked.now c.in-Ok-Closes.found so.0 c.requires.closes so.1 so.2

pub returns-in-Ok-Refused-clause-met : goal.returns-in-Ok-Refused-clause-met
returns-in-Ok-Refused-clause-met g c = λ epoch parts now p t shared has.
    let address = g.D.Digester.address in
    refused_started address epoch c.find_course.new.session parts now p t shared
    (started_on address c.args.session.now c.find_course.new.session parts now p t shared has (c.find_course.ensures.stands (within p t) has.stands) c.find_course.ensures.grows.base)
    c.args.asked.now c.in-Ok-Refused.number c.refuse_started.new.session c.due.result c.refuse_started.result
    (subst (λ course. IsCourse address (chunks_of c.find_course.new.session.draft.chunks) t.commits course c.args.asked.now (worked (within p t) t c.args.asked.now)) c.in-Ok-Refused.field-0-is
    (c.in-Ok-Refused.ensures.course (within p t) t has.stands refl))
    c.due.ensures.due c.refuse_started.ensures.session c.refuse_started.ensures.reply

pub returns-in-Ok-Stays-clause-met : goal.returns-in-Ok-Stays-clause-met
returns-in-Ok-Stays-clause-met g c = λ epoch parts now p t shared has.
    let address = g.D.Digester.address in
    let stands = c.find_course.ensures.stands (within p t) has.stands in
    c.end_answered.ensures.met epoch parts now p c.args.asked.now shared
    (has_answered address c.find_course.new.session c.take_step-reply.new.session parts now p t shared c.take_step-reply.result
    (started_on address c.args.session.now c.find_course.new.session parts now p t shared has stands c.find_course.ensures.grows.base)
    (ap (λ d. d.chunks.base) c.take_step-reply.ensures.draft) c.args.asked.now
    (c.take_step-reply.ensures.alone (within p t) t c.args.asked.now stands refl
    (subst (λ course. IsCourse address (chunks_of c.find_course.new.session.draft.chunks) t.commits course c.args.asked.now (worked (within p t) t c.args.asked.now)) c.in-Ok-Stays.field-0-is
    (c.in-Ok-Stays.ensures.course (within p t) t has.stands refl))))

pub returns-in-Err-clause-met : goal.returns-in-Err-clause-met
returns-in-Err-clause-met g c = λ epoch parts now p t shared has.
    let address = g.D.Digester.address in
    faulted_started address epoch c.find_course.new.session parts now p t shared
    (started_on address c.args.session.now c.find_course.new.session parts now p t shared has (c.find_course.ensures.stands (within p t) has.stands) c.find_course.ensures.grows.base)
    c.args.asked.now c.in-Err.fault c.refuse_started-in-Err.new.session c.reply_to.result
    c.refuse_started-in-Err.result c.refuse_started-in-Err.ensures.session c.reply_to.ensures.reply c.refuse_started-in-Err.ensures.reply
