use Rattle.std.proofs.Common.{◌≡◌, ◌∙◌, ◌+◌, ◌<◌, ◌≤◌, ℤ, true, inl, inr, refl, sym, subst, length, arith, w64}
use Rattle.std.proofs.lemmas.Bool.{false≢true}
use Rattle.std.proofs.lemmas.Int.{to_z-of_z}
use Rattle.session_state.specs.Changes.{Parts}
use Rattle.shared_history.specs.Lone.{tells_alone}
use Rattle.shared_history.specs.Meeting.{room_of}
use Rattle.serving.specs.Steps.{number_at}
use Rattle.script_run.specs.Following.{IsLed, IsPlayer, moments_left}
use Rattle.script_run.specs.Seats.{room_at}
use Rattle.script_run.proofs.GoingLemmas.{as_many, here_of, more_left, needs, number_is_at, stands_of}
use Rattle.script_run.proofs.LeftLemmas.{still}
use Rattle.script_run.proofs.SeatLemmas.{led_alone, rests, seat_of, seated_parts, seated_room, waited_still}
use Rattle.script_run.proofs.going.lead_at.Goals as goal

pub returns-then-not-is_next-clause-led : goal.returns-then-not-is_next-clause-led
returns-then-not-is_next-clause-led g c = λ made. absurd (false≢true made)

pub returns-then-not-is_next-clause-missed : goal.returns-then-not-is_next-clause-missed
returns-then-not-is_next-clause-missed g c = λ missed shared place runner is. still _ is

pub returns-then-not-is_next-clause-past : goal.returns-then-not-is_next-clause-past
returns-then-not-is_next-clause-past g c = λ missed. inl (refl, sym c.is_next.ensures ∙ c.if-not-is_next.true)

pub returns-then-not-is_next-clause-one_less : goal.returns-then-not-is_next-clause-one_less
returns-then-not-is_next-clause-one_less g c = λ made. absurd (false≢true made)

pub lead-requires-clause-ready : goal.lead-requires-clause-ready
lead-requires-clause-ready g c κs within = (c.seat.new.self, c.seat.ensures.ready c.args.lone.now c.requires.rest.alone)

pub lead-requires-clause-player : goal.lead-requires-clause-player
lead-requires-clause-player g c κs within =
    let p = c.requires.player in
    (p.0, p.1, p.2, subst (λ (parts : Parts). IsPlayer g.D.Digester.address parts p.0 p.1 p.2 c.args.player.now) (sym (seated_parts c.args.lone.now c.seat.new.self c.seat.ensures.tells)) p.3)

pub lead-requires-clause-seat : goal.lead-requires-clause-seat
lead-requires-clause-seat g c κs within =
    seat_of c.args.lone.now c.seat.new.self c.seat.ensures.tells c.requires.rest.free c.args.player.now.session refl (sym (needs c.args.statement c.args.player.now (sym c.is_next.ensures ∙ c.if-not-is_next.false)).1)

pub lead-requires-clause-waits : goal.lead-requires-clause-waits
lead-requires-clause-waits g c κs within = (needs c.args.statement c.args.player.now (sym c.is_next.ensures ∙ c.if-not-is_next.false)).0

pub lead-requires-clause-room : goal.lead-requires-clause-room
lead-requires-clause-room g c κs within =
    let p = c.requires.player in
    let left = more_left p.3 (needs c.args.statement c.args.player.now (sym c.is_next.ensures ∙ c.if-not-is_next.false)).0 in
    let some : moments_left c.args.player.now ≤ room_at c.args.lone.now.db.parts c.args.player.now.session.number
    = subst (λ n. moments_left c.args.player.now ≤ room_at c.args.lone.now.db.parts n) (sym ((stands_of p.3).number ∙ p.3.number)) p.4 in
    let room : room_of (tells_alone c.seat.new.self) ≡ room_at c.args.lone.now.db.parts c.args.player.now.session.number = seated_room c.args.lone.now c.seat.new.self c.seat.ensures.tells in
    omega (arith, left.1, some, room)

pub returns-clause-led : goal.returns-clause-led
returns-clause-led g c = λ made shared place runner is. (
  sym (number_is_at is) ∙ (needs c.args.statement c.args.player.now (sym c.is_next.ensures ∙ c.if-not-is_next.false)).1,
  subst (λ (e : ℤ). IsLed g.D.Digester.address e place runner shared c.args.lone.now.db.parts c.lead.new.meeting.db.parts c.lead.new.player) (to_z-of_z w64 c.args.epoch c.ranges.epoch)
      (led_alone g.D.Digester.address c.args.lone.now c.seat.new.self c.lead.new.meeting (seated_parts c.args.lone.now c.seat.new.self c.seat.ensures.tells)
      (c.lead.ensures.led made shared place runner (subst (λ (parts : Parts). IsPlayer g.D.Digester.address parts shared place runner c.args.player.now) (sym (seated_parts c.args.lone.now c.seat.new.self c.seat.ensures.tells)) is))
      shared (here_of is).state_stands),
)

pub returns-clause-missed : goal.returns-clause-missed
returns-clause-missed g c = λ missed. c.lead.ensures.missed missed c.args.lone.now.db.parts

pub returns-clause-same : goal.returns-clause-same
returns-clause-same g c = λ missed. waited_still g.D.Digester.address c.args.lone.now c.seat.new.self c.lead.new.meeting (seated_parts c.args.lone.now c.seat.new.self c.seat.ensures.tells) (c.lead.ensures.stays missed)

pub returns-clause-rest : goal.returns-clause-rest
returns-clause-rest g c =
    let p = c.requires.player in
    rests g.D.Digester.address c.args.lone.now c.seat.new.self c.lead.new.meeting (seated_parts c.args.lone.now c.seat.new.self c.seat.ensures.tells) (c.lead.ensures.ready c.seat.new.self (c.seat.ensures.ready c.args.lone.now c.requires.rest.alone)) c.lead.result
    (λ made. c.lead.ensures.led made p.0 p.1 p.2 (subst (λ (parts : Parts). IsPlayer g.D.Digester.address parts p.0 p.1 p.2 c.args.player.now) (sym (seated_parts c.args.lone.now c.seat.new.self c.seat.ensures.tells)) p.3)) c.lead.ensures.stays

pub returns-clause-past : goal.returns-clause-past
returns-clause-past g c = λ missed.
    let is = c.requires.player.3 in
    let number : number_at c.args.player.now.session.position ≡ c.args.statement = (needs c.args.statement c.args.player.now (sym c.is_next.ensures ∙ c.if-not-is_next.false)).1 in
    let counted : c.requires.player.2.session.statement ≡ length c.requires.player.2.replies + 1 = is.counted in
    let said : length c.lead.new.player.replies.items ≡ length c.args.player.now.replies.items + 1 = c.lead.ensures.answered missed in
    inr (omega (arith, number_is_at is, as_many is))
