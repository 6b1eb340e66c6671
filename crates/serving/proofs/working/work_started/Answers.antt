use Rattle.serving.proofs.BegunLemmas.{worked_on}
use Rattle.serving.proofs.working.work_started.Goals as goal

pub returns-clause-met : goal.returns-clause-met
returns-clause-met g c = λ epoch p shared old new s.
    worked_on g.D.Digester.address p c.args.asked.now shared old new c.args.session.now s epoch c.do_work-met.new.session c.pass_on.new.session c.number_of-number.result c.do_work-met.result
    c.number_of-number.ensures c.pass_on.ensures (c.do_work-met.ensures.met epoch p shared old new s)
