use Rattle.std.proofs.Common.{◌∷◌, ◌%◌, ap, sym, ◌∙◌, subst, List, Some}
use Rattle.atomic_table.specs.Table.{rest}
use Rattle.seat_gate.specs.History.{Entry, StartsWith}
use Rattle.seat_gate.specs.Places.{only}
use Rattle.seat_gate.specs.Rule.{turn}
use Rattle.seat_gate.proofs.gate.Gate.enter.Goals as goal

pub exchange-requires : goal.exchange-requires
exchange-requires g c =
    let drew = c.wait_for_ticket-ticket.ensures.drew in
    let stood = c.loop.invariant.1 ∙ drew.1 in
    let t = c.read_serving-found.ensures.looked.0 (c.if-found-ticket.true ∙ (drew.2 ∙ ap (λ m. m.0.ticket % turn) (sym stood))) in
    let out = ap (λ m. m.1) t.2 in (
      c.read_serving-found.ensures.same ∙ (c.loop.invariant.0 ∙ (c.wait_for_ticket-ticket.ensures.same ∙ (c.into_seat-seat.ensures.0 ∙ c.requires))),
      (Some t.0, out ∙ ap (λ l. (0, Some t.0) ∷ rest l) (sym out)),
    )

pub returns-then-found-ticket-clause-prefix : goal.returns-then-found-ticket-clause-prefix
returns-then-found-ticket-clause-prefix g c =
    let drew = c.wait_for_ticket-ticket.ensures.drew in
    let stood = c.loop.invariant.1 ∙ drew.1 in
    let t = c.read_serving-found.ensures.looked.0 (c.if-found-ticket.true ∙ (drew.2 ∙ ap (λ m. m.0.ticket % turn) (sym stood))) in
    let now = ap (λ m. m.0.view.seen) c.exchange.ensures.3 ∙ ap (λ m. m.0.view.seen) t.2 in
    let before = ap (λ m. m.0.view.seen) stood ∙ sym (ap (λ l. (only l).view.seen) c.into_seat-seat.ensures.2) in
    subst (λ (z : List Entry × List Entry). StartsWith z.0 z.1) (λ i. (sym now i, before i)) t.4
