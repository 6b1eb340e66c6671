use Rattle.std.proofs.Common.{◌∙◌, ap, subst, sym}
use Rattle.plain_sessions.specs.Fitness.{IsFitCommand}
use Rattle.plain_sessions.specs.declared.commands.Command.TheVariants as command
use Rattle.plain_sessions.specs.declared.commands.Work.{Work}
use Rattle.session_plan.specs.Answering.{AnswersAlone}
use Rattle.session_txn.specs.Answering.{is_local}
use Rattle.session_txn.proofs.SessionLemmas.{in_transaction}
use Rattle.session_txn.proofs.answering.do_work.Goals as goal

pub ask-requires-after_bounds : goal.ask-requires-after_bounds
ask-requires-after_bounds g c κs within =
    in_transaction g.D.Digester.address c.args.session.now c.requires.stands.0 c.requires.stands.1
    (ap (λ (w : Work). is_local c.requires.stands.0 (command.Data w)) (sym c.in-Ask.is) ∙ c.requires.stands.2)

pub change-requires-clause-stands : goal.change-requires-clause-stands
change-requires-clause-stands g c κs within =
    in_transaction g.D.Digester.address c.args.session.now c.requires.stands.0 c.requires.stands.1
    (ap (λ (w : Work). is_local c.requires.stands.0 (command.Data w)) (sym c.in-Change.is) ∙ c.requires.stands.2)

pub change-requires-clause-fit : goal.change-requires-clause-fit
change-requires-clause-fit g c κs within = subst (λ (w : Work). IsFitCommand (command.Data w)) c.in-Change.is c.requires.fit

pub returns-in-Ask-clause-alone : goal.returns-in-Ask-clause-alone
returns-in-Ask-clause-alone g c = λ p stands local.
    subst (λ (w : Work). AnswersAlone g.D.Digester.address p (command.Data w) c.args.session.now c.ask.result) (sym c.in-Ask.is)
    (c.ask.ensures.alone p stands (ap (λ (w : Work). is_local p (command.Data w)) (sym c.in-Ask.is) ∙ local))

pub returns-in-Change-clause-alone : goal.returns-in-Change-clause-alone
returns-in-Change-clause-alone g c = λ p stands local.
    subst (λ (w : Work). AnswersAlone g.D.Digester.address p (command.Data w) c.change.new.session c.change.result) (sym c.in-Change.is)
    (c.change.ensures.alone p stands (ap (λ (w : Work). is_local p (command.Data w)) (sym c.in-Change.is) ∙ local))
