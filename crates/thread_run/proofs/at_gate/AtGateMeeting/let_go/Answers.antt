use Rattle.std.proofs.Common.{◌∙◌, ap, sym}
use Rattle.shared_history.specs.declared.notes.Notes.{Notes}
use Rattle.thread_run.proofs.AtGateLemmas.{lets_go, stays_ready}
use Rattle.thread_run.proofs.at_gate.AtGateMeeting.let_go.Goals as goal

pub put_back-requires-clause-value : goal.put_back-requires-clause-value
put_back-requires-clause-value g c = (c.take-held.ensures.value.0 ∙ sym c.take-held.ensures.same, c.take-held.ensures.value.1, c.take-held.ensures.value.2)

pub returns-clause-ready : goal.returns-clause-ready
returns-clause-ready g c =
    λ first at.
    stays_ready g.D.Digester.address first c.args.self.now at c.take-held.result c.take-held.ensures.value c.take-held.ensures.saw
    c.put_back.new.stand c.with_call-self.result (c.put_back.ensures.same ∙ c.take-held.ensures.same) c.put_back.ensures.ready c.put_back.ensures.view
    (ap (λ (n : Notes). n.session) c.with_call-self.ensures) (ap (λ (n : Notes). n.statement) c.with_call-self.ensures)

pub returns-clause-free : goal.returns-clause-free
returns-clause-free g c =
    lets_go g.D.Digester.address c.requires.ready.0 c.args.self.now c.requires.ready.1 c.take-held.result c.take-held.ensures.value c.take-held.ensures.saw
    c.take-held.ensures.still c.put_back.new.stand c.with_call-self.result c.requires.held c.put_back.ensures.view c.put_back.ensures.holds c.with_call-self.ensures
