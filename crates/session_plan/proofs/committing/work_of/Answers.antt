use Rattle.session_plan.proofs.CommitLemmas.{work_by, work_fault}
use Rattle.session_plan.proofs.committing.work_of.Goals as goal

pub returns-clause-work : goal.returns-clause-work
returns-clause-work g c =
    work_by c.args.session.now c.args.look.now c.in_ok-store.store c.copied.result c.in_ok-store.ensures c.tell.ensures.single c.copied.ensures.same c.copied.ensures.segments
    c.copied.ensures.agree

pub returns-clause-fault : goal.returns-clause-fault
returns-clause-fault g c =
    work_fault g.D.Digester.address c.args.session.now c.args.look.now c.in_ok-store.store c.copied.result c.law_of_chunks.ensures c.requires.4.look_is.named
    c.tell-2.ensures.named c.in_ok-store.ensures c.copied.ensures.cause
