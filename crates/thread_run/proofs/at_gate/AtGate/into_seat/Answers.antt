use Rattle.std.proofs.Common.{◌∙◌, Some, ap, sym}
use Rattle.seat_gate.specs.History.{View}
use Rattle.seat_gate.specs.Told.{left_last}
use Rattle.thread_run.specs.Turns.{turns_of}
use Rattle.thread_run.proofs.AtGateLemmas.{seen_spelled}
use Rattle.thread_run.proofs.at_gate.AtGate.into_seat.Goals as goal

pub returns-clause-made : goal.returns-clause-made
returns-clause-made g c = ap (λ (v : View). Some (turns_of v)) (sym c.into_seat.ensures.view)

pub returns-clause-seen : goal.returns-clause-seen
returns-clause-seen g c =
    seen_spelled g.D.Digester.address c.requires.ready.0 c.args.self c.requires.ready.1 ∙ ap (λ (v : View). left_last v.opened v.seen) (sym c.into_seat.ensures.view)
