use Rattle.std.proofs.Common.{refl}
use Rattle.script_text.specs.declared.replies.Reply.TheVariants.{Refused}
use Rattle.plain_sessions.specs.declared.commands.Command.TheVariants as command
use Rattle.session_plan.proofs.AloneLemmas.{starves}
use Rattle.branch_procs.proofs.local.branch_local.Goals as goal

pub returns-in-Err-clause-alone : goal.returns-in-Err-clause-alone
returns-in-Err-clause-alone g c = λ p stands inside. starves g.D.Digester.address c.args.session.now p (command.Data c.args.asked.now) (Refused 1) stands refl
