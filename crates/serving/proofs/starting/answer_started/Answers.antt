use Rattle.std.proofs.Common.{sym, subst}
use Rattle.plain_sessions.specs.Sessions.{within}
use Rattle.plain_sessions.specs.declared.commands.Command.{Command}
use Rattle.serving.specs.Answering.{HasMet}
use Rattle.serving.proofs.BegunLemmas.{started_takes, work_answered}
use Rattle.serving.proofs.StartLemmas.{alone_within}
use Rattle.serving.proofs.starting.answer_started.Goals as goal

pub answer_alone-reply-requires-clause-stands : goal.answer_alone-reply-requires-clause-stands
answer_alone-reply-requires-clause-stands g c κs within_κs =
    let held = c.requires.started in
    let s = held.4 in (
      within held.0 s.transaction,
      s.started.stands,
      alone_within held.0 s.transaction c.args.asked.now (started_takes g.D.Digester.address held.0 c.args.asked.now held.1 held.2 held.3 c.args.session.now s) c.requires.call,
    )

pub end_answered-requires-clause-answered : goal.end_answered-requires-clause-answered
end_answered-requires-clause-answered g c κs within_κs =
    let held = c.requires.started in
    let s = held.4 in (
      held.2,
      held.3,
      held.0,
      s.work,
      held.1,
      work_answered g.D.Digester.address held.0 c.args.asked.now held.1 held.2 held.3 c.args.session.now s c.answer_alone-reply.new.session c.answer_alone-reply.result
          c.answer_alone-reply.ensures.base (c.answer_alone-reply.ensures.alone (within held.0 s.transaction) s.started.stands
          (alone_within held.0 s.transaction c.args.asked.now (started_takes g.D.Digester.address held.0 c.args.asked.now held.1 held.2 held.3 c.args.session.now s) c.requires.call)),
    )

pub returns-clause-met : goal.returns-clause-met
returns-clause-met g c = λ epoch p shared old new s.
    subst (λ (asked : Command). HasMet g.D.Digester.address epoch p asked shared old new c.end_answered.new.session c.end_answered.result) (sym s.asked_is)
    (c.end_answered.ensures.met epoch old new p s.work shared
    (work_answered g.D.Digester.address p c.args.asked.now shared old new c.args.session.now s c.answer_alone-reply.new.session c.answer_alone-reply.result
    c.answer_alone-reply.ensures.base (c.answer_alone-reply.ensures.alone (within p s.transaction) s.started.stands
    (alone_within p s.transaction c.args.asked.now (started_takes g.D.Digester.address p c.args.asked.now shared old new c.args.session.now s) c.requires.call))))
