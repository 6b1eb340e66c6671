use Rattle.std.proofs.Common.{subst, sym}
use Rattle.plain_sessions.specs.declared.commands.Command.{Command}
use Rattle.serving.specs.Answering.{HasMet}
use Rattle.serving.proofs.working.do_work.Goals as goal

pub follow_started-requires-clause-started : goal.follow_started-requires-clause-started
follow_started-requires-clause-started g c κs within =
    let held = c.requires.started in (held.2, held.3, held.0, held.4.transaction, held.1, held.4.started)

pub returns-then-may_close-clause-met : goal.returns-then-may_close-clause-met
returns-then-may_close-clause-met g c = λ epoch p shared old new s.
    subst (λ (asked : Command). HasMet g.D.Digester.address epoch p asked shared old new c.follow_started.new.session c.follow_started.result) (sym c.in-Data.is)
    (c.follow_started.ensures.met epoch old new p s.transaction shared s.started)
