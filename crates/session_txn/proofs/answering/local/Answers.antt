use Rattle.std.proofs.Common.{◌∙◌, ap, refl, subst, sym}
use Rattle.script_text.specs.Collisions.{TellsTruly}
use Rattle.script_text.specs.declared.replies.Reply.{Reply}
use Rattle.plain_sessions.specs.Fitness.{IsFitCommand}
use Rattle.plain_sessions.specs.Replies.{refused_by}
use Rattle.plain_sessions.specs.declared.commands.Command.{Command}
use Rattle.plain_sessions.specs.declared.commands.Command.TheVariants as command
use Rattle.session_plan.specs.Answering.{AnswersAlone}
use Rattle.session_txn.specs.Answering.{is_local}
use Rattle.session_plan.proofs.AloneLemmas.{answers_due}
use Rattle.session_txn.proofs.SelectLemmas.{says}
use Rattle.session_txn.proofs.SessionLemmas.{ends}
use Rattle.session_plan.proofs.ShowLemmas.{due_truly}
use Rattle.session_txn.proofs.answering.local.Goals as goal

pub do_work-requires-clause-stands : goal.do_work-requires-clause-stands
do_work-requires-clause-stands g c κs within =
    (c.requires.stands.0, c.requires.stands.1, ap (λ (a : Command). is_local c.requires.stands.0 a) (sym c.in-Data.is) ∙ c.requires.stands.2)

pub do_work-requires-clause-fit : goal.do_work-requires-clause-fit
do_work-requires-clause-fit g c κs within = subst (λ (a : Command). IsFitCommand a) c.in-Data.is c.requires.fit

pub returns-in-Faulty-clause-alone : goal.returns-in-Faulty-clause-alone
returns-in-Faulty-clause-alone g c = λ p stands local.
    subst (λ (a : Command). AnswersAlone g.D.Digester.address p a c.args.session.now c.refuse.result) (sym c.in-Faulty.is)
    (answers_due g.D.Digester.address c.args.session.now p p (command.Faulty c.in-Faulty.refusal) (refused_by c.in-Faulty.refusal) c.refuse.result refl c.refuse.ensures.due stands stands)

pub returns-in-Faulty-clause-truly : goal.returns-in-Faulty-clause-truly
returns-in-Faulty-clause-truly g c = due_truly g.D.Digester.address 1 (refused_by c.in-Faulty.refusal) c.refuse.result c.refuse.ensures.due

pub returns-in-Switch-clause-alone : goal.returns-in-Switch-clause-alone
returns-in-Switch-clause-alone g c = λ p stands local.
    subst (λ (a : Command). AnswersAlone g.D.Digester.address p a c.switch.new.session c.switch.result) (sym c.in-Switch.is)
    (c.switch.ensures.alone p stands (ap (is_local p) (sym c.in-Switch.is) ∙ local))

pub returns-in-Data-clause-alone : goal.returns-in-Data-clause-alone
returns-in-Data-clause-alone g c = λ p stands local.
    subst (λ (a : Command). AnswersAlone g.D.Digester.address p a c.do_work.new.session c.do_work.result) (sym c.in-Data.is)
    (c.do_work.ensures.alone p stands (ap (is_local p) (sym c.in-Data.is) ∙ local))

pub returns-in-Say-clause-alone : goal.returns-in-Say-clause-alone
returns-in-Say-clause-alone g c = λ p stands local.
    subst (λ (a : Command). AnswersAlone g.D.Digester.address p a c.args.session.now c.say.result) (sym c.in-Say.is)
    (says g.D.Digester.address c.args.session.now p c.in-Say.select c.say.result (c.say.ensures.due p stands) stands)

pub returns-in-Say-clause-truly : goal.returns-in-Say-clause-truly
returns-in-Say-clause-truly g c = c.say.ensures.truly g.D.Digester.address

pub returns-in-CommitAll-clause-alone : goal.returns-in-CommitAll-clause-alone
returns-in-CommitAll-clause-alone g c = λ p stands local.
    ends g.D.Digester.address c.end.new.session p c.args.asked.now c.end.result c.in-CommitAll.is local c.end.ensures.done (c.end.ensures.over p stands)
