use Rattle.std.proofs.Common.{◌∙◌, ap, sym}
use Rattle.shared_history.specs.declared.notes.Notes.{Notes}
use Rattle.thread_run.proofs.AtGateLemmas.{holds, stays_ready}
use Rattle.thread_run.proofs.at_gate.AtGateMeeting.hold.Goals as goal

pub keep-requires-clause-value : goal.keep-requires-clause-value
keep-requires-clause-value g c = (c.take-held.ensures.value.0 ∙ sym c.take-held.ensures.same, c.take-held.ensures.value.1, c.take-held.ensures.value.2)

pub returns-clause-ready : goal.returns-clause-ready
returns-clause-ready g c =
    λ first at.
    stays_ready g.D.Digester.address first c.args.self.now at c.take-held.result c.take-held.ensures.value c.take-held.ensures.saw
    c.keep.new.self c.with_hold-self.result (c.keep.ensures.same ∙ c.take-held.ensures.same) c.keep.ensures.ready c.keep.ensures.view
    (ap (λ (n : Notes). n.session) c.with_hold-self.ensures) (ap (λ (n : Notes). n.statement) c.with_hold-self.ensures)

pub returns-clause-held : goal.returns-clause-held
returns-clause-held g c =
    holds g.D.Digester.address c.requires.ready.0 c.args.self.now c.requires.ready.1 c.take-held.result c.take-held.ensures.value c.take-held.ensures.saw
    c.take-held.ensures.still c.keep.new.self c.with_hold-self.result c.keep.ensures.view c.keep.ensures.holds c.with_hold-self.ensures
