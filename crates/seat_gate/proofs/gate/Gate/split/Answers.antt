use Rattle.std.proofs.Common.{◌+◌, ◌<◌, ap, sym, ◌∙◌, subst, arith}
use Rattle.seat_gate.proofs.Meetings.{rests, splits}
use Rattle.seat_gate.specs.declared.place.SeatState.{SeatState}
use Rattle.seat_gate.proofs.gate.Gate.split.Goals as goal

pub split_seat-new-requires : goal.split_seat-new-requires
split_seat-new-requires g c =
    let place : SeatState = c.into_seat-place.result.me.0 in
    let was = c.replace-badge.ensures.value in
    let into = c.into_seat-place.ensures in
    let r = rests c.args.seat.now.badge.views place c.args.seat.now.rests (ap (λ b. b.views) (sym was) ∙ into.2) in
    let sized = c.args.self.now.sized.0 in (
      into.0 ∙ (ap (λ b. b.table_id) was ∙ c.requires.gate),
      omega arith,
      splits g.T.Kept.fits _ _ place r.live (ap (λ p. p.view.number) (sym r.is) ∙ c.requires.first) (subst (λ (p : SeatState). p.view.given + 1 < 4294967296) r.is c.requires.few),
    )
