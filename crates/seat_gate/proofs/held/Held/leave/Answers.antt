use Rattle.std.proofs.Common.{◌∷◌, ap, sym, ◌∙◌, subst, Some}
use Rattle.atomic_table.specs.Table.{rest}
use Rattle.seat_gate.specs.declared.place.SeatState.{SeatState}
use Rattle.seat_gate.proofs.held.Held.leave.Goals as goal

pub serve_next-requires-clause-fits : goal.serve_next-requires-clause-fits
serve_next-requires-clause-fits g c =
    let value = c.args.self.value in
    let put = c.exchange.ensures.3 in (
      value,
      ap (λ m. m.1) put ∙ ap (λ l. (0, Some value) ∷ rest l) c.requires.taken.3,
      subst (λ (p : SeatState). g.T.Kept.fits value p.view.opened p.view.seen) (ap (λ m. m.0) (sym put)) c.requires.fits,
    )
