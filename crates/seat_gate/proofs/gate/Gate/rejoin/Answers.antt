use Rattle.std.proofs.Common.{◌∙◌, sym, ap, subst, arith}
use Rattle.seat_gate.specs.History.{View, joined_with, OneOpening}
use Rattle.seat_gate.specs.Places.{only}
use Rattle.seat_gate.specs.Words.{HasJoined, seat_view}
use Rattle.seat_gate.proofs.Meetings.{rests, joins, joined_kept, joined_opening}
use Rattle.seat_gate.proofs.gate.Gate.rejoin.Goals as goal

pub join_seat-requires : goal.join_seat-requires
join_seat-requires g c =
    let into = c.into_seat-place.ensures in
    let other = c.into_seat-spent.ensures in
    let p = c.into_seat-place.result.me.0 in
    let q = c.into_seat-spent.result.me.0 in
    let r = rests c.args.into.badge.views p c.args.into.rests into.2 in
    let t = rests c.args.other.badge.views q c.args.other.rests other.2 in
    let sized = c.args.self.now.sized.0 in (
      into.0 ∙ c.requires.into,
      other.0 ∙ c.requires.other,
      other.3,
      omega arith,
      joins g.T.Kept.fits _ _ p _ q r.idle r.off_turn r.live t.idle t.off_turn t.live,
    )

pub returns-clause-joined : goal.returns-clause-joined
returns-clause-joined g c k h =
    let v : View = seat_view c.args.into in
    let w : View = seat_view c.args.other in
    let as_now = ap (λ l. (only l).view) c.into_badge.ensures.2 in
    let as_joined = ap (λ m. m.0.view) c.recall.ensures.same.1 ∙ ap (λ m. m.0.view) c.join_seat.ensures.2 in
    let as_into = ap (λ l. (only l).view) c.into_seat-place.ensures.2 in
    let as_other = ap (λ l. (only l).view) c.into_seat-spent.ensures.2 in
    subst (HasJoined k) (ap (λ (z : View × View). joined_with z.0 z.1) (λ i. (as_into i, as_other i)) ∙ sym (as_now ∙ as_joined)) (joined_kept v w k h)

pub recall-requires-clause-live : goal.recall-requires-clause-live
recall-requires-clause-live g c =
    let p = c.into_seat-place.result.me.0 in
    let r = rests c.args.into.badge.views p c.args.into.rests c.into_seat-place.ensures.2 in
    ap (λ m. m.0.spent) c.join_seat.ensures.2 ∙ r.live

pub returns-clause-opened : goal.returns-clause-opened
returns-clause-opened g c =
    let v : View = seat_view c.args.into in
    let w : View = seat_view c.args.other in
    let as_joined = ap (λ m. m.0.view) c.join_seat.ensures.2 in
    let as_into = ap (λ l. (only l).view) c.into_seat-place.ensures.2 in
    let as_other = ap (λ l. (only l).view) c.into_seat-spent.ensures.2 in
    joined_opening v w (subst OneOpening (as_joined ∙ ap (λ (z : View × View). joined_with z.0 z.1) (λ i. (sym as_into i, sym as_other i))) c.recall.ensures.opened)
