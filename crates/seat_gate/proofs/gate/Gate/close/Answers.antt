use Rattle.std.proofs.Common.{◌≡◌, ◌≢◌, ℕ, ◌<◌, refl, sym, ◌∙◌, subst, Some, IsSome}
use mathlib.Core.Option.{some-injective}
use Rattle.seat_gate.specs.Words.{HasJoined, IsWhole}
use Rattle.seat_gate.specs.declared.place.SeatState.{SeatState}
use Rattle.seat_gate.proofs.Meetings.{rests, closes}
use Rattle.seat_gate.proofs.gate.Gate.close.Goals as goal

pub unwrap-requires : goal.unwrap-requires
unwrap-requires g c =
    let p : SeatState = c.into_seat.result.me.0 in
    let r = rests c.args.seat.badge.views p c.args.seat.rests c.into_seat.ensures.2 in
    let end = closes g.T.Kept.fits _ _ p _ _ r.off_turn r.live (subst (λ (x : SeatState). 0 < x.view.given) r.is c.requires.counted)
    (subst (λ (x : SeatState). (k : ℕ) → k < x.view.given → k ≢ x.view.number → HasJoined k x.view) r.is c.requires.all) c.close_with-closed.ensures.values.2 in
    subst IsSome (some-injective _ _ (sym end.2 ∙ c.take-value.ensures.value)) refl

pub returns : goal.returns
returns g c =
    let p : SeatState = c.into_seat.result.me.0 in
    let r = rests c.args.seat.badge.views p c.args.seat.rests c.into_seat.ensures.2 in
    let end = closes g.T.Kept.fits _ _ p _ _ r.off_turn r.live (subst (λ (x : SeatState). 0 < x.view.given) r.is c.requires.counted)
    (subst (λ (x : SeatState). (k : ℕ) → k < x.view.given → k ≢ x.view.number → HasJoined k x.view) r.is c.requires.all) c.close_with-closed.ensures.values.2 in
    let same : Some end.0 ≡ Some c.unwrap.result = some-injective _ _ (sym end.2 ∙ c.take-value.ensures.value) ∙ c.unwrap.ensures in
    let value : end.0 ≡ c.unwrap.result = cc in
    (end.1, subst (λ (x : SeatState). IsWhole g.T.Kept.fits c.unwrap.result x.view end.1) (sym r.is) (subst (λ v. IsWhole g.T.Kept.fits v p.view end.1) value end.3))
