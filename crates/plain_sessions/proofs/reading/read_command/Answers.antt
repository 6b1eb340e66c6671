use Rattle.std.proofs.Common.{sym, subst}
use Rattle.plain_sessions.specs.declared.commands.Command.{Command}
use Rattle.plain_sessions.specs.Fitness.{IsFitCommand}
use Rattle.plain_sessions.proofs.FitLemmas.{command_fits, kept_fits}
use Rattle.plain_sessions.proofs.reading.read_command.Goals as goal

pub returns-clause-fit : goal.returns-clause-fit
returns-clause-fit c =
    kept_fits c.in_ok-asked.asked c.new.result c.new.ensures
    (subst (λ (asked : Command). IsFitCommand asked) (sym c.in_ok-asked.ensures) (command_fits c.law_of_sound_statements.ensures.texts c.args.text.now c.requires.utf8))
