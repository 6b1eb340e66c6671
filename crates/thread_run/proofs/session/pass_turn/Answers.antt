use Rattle.std.proofs.Common.{◌∙◌, ap, refl, sym, w64}
use Rattle.std.proofs.lemmas.Int.{to_z-of_z}
use Rattle.shared_history.specs.Meeting.{Tells}
use Rattle.script_run.proofs.GoingLemmas.{number_is_at}
use Rattle.thread_run.specs.Gate.{view_at}
use Rattle.thread_run.proofs.GoingLemmas.{goes_as, goes_further, led_free, led_goes, player_seen, room_there, seat_is}
use Rattle.thread_run.proofs.session.pass_turn.Goals as goal

pub lead-requires-clause-ready : goal.lead-requires-clause-ready
lead-requires-clause-ready g c κs within = (c.requires.ready.0, c.come_to.ensures.ready c.requires.ready.0 c.requires.ready.1)

pub lead-requires-clause-player : goal.lead-requires-clause-player
lead-requires-clause-player g c κs within =
    let p = c.requires.going in
    let going = goes_as refl (sym c.come_to.ensures.view) p.3 in (
      going.shared,
      p.0,
      going.runner,
      player_seen g.D.Digester.address c.args.epoch p.0 p.1 p.2 c.requires.ready.0 c.come_to.new.self (c.come_to.ensures.ready c.requires.ready.0 c.requires.ready.1) c.args.player.now going,
    )

pub lead-requires-clause-seat : goal.lead-requires-clause-seat
lead-requires-clause-seat g c κs within =
    let p = c.requires.going in
    let going = goes_as refl (sym c.come_to.ensures.view) p.3 in
    seat_is g.D.Digester.address c.args.epoch p.0 p.1 p.2 c.requires.ready.0 c.come_to.new.self (c.come_to.ensures.ready c.requires.ready.0 c.requires.ready.1) c.args.player.now going
    (ap (λ (m : Tells). m.statement) c.come_to.ensures.tells ∙ c.number_of.ensures) (ap (λ (m : Tells). m.held) c.come_to.ensures.tells ∙ c.requires.rests)

pub lead-requires-clause-room : goal.lead-requires-clause-room
lead-requires-clause-room g c κs within =
    let p = c.requires.going in
    let going = goes_as refl (sym c.come_to.ensures.view) p.3 in
    room_there g.D.Digester.address c.args.epoch p.0 p.1 p.2 c.requires.ready.0 c.come_to.new.self (c.come_to.ensures.ready c.requires.ready.0 c.requires.ready.1) c.args.player.now going c.requires.waits

pub go_on-requires-after_bounds : goal.go_on-requires-after_bounds
go_on-requires-after_bounds g c κs within =
    let p = c.requires.going in
    let going = goes_as (sym (to_z-of_z w64 c.args.epoch c.ranges.epoch)) (sym c.come_to.ensures.view) p.3 in
    let begun = c.requires.ready.0 in
    let origin = c.come_to.ensures.ready begun c.requires.ready.1 in
    let seen = player_seen g.D.Digester.address _ p.0 p.1 p.2 begun c.come_to.new.self origin c.args.player.now going in
    let on = led_goes g.D.Digester.address _ p.0 p.1 p.2 begun c.come_to.new.self origin c.args.player.now going c.lead.new.meeting (c.lead.ensures.ready begun origin) c.lead.new.player c.lead.ensures.left c.lead.result
    (ap (λ (m : Tells). m.statement) c.come_to.ensures.tells ∙ (c.number_of.ensures ∙ number_is_at going.is)) (λ made. c.lead.ensures.led made going.shared p.0 going.runner seen)
    (λ made. c.lead.ensures.missed made _ going.shared p.0 going.runner seen) c.lead.ensures.stays in
    (on.parts, on.shared, p.0, on.runner, on.is)

pub returns-clause-rests : goal.returns-clause-rests
returns-clause-rests g c =
    let p = c.requires.going in
    let going = goes_as (sym (to_z-of_z w64 c.args.epoch c.ranges.epoch)) (sym c.come_to.ensures.view) p.3 in
    let begun = c.requires.ready.0 in
    let origin = c.come_to.ensures.ready begun c.requires.ready.1 in
    let seen = player_seen g.D.Digester.address _ p.0 p.1 p.2 begun c.come_to.new.self origin c.args.player.now going in
    led_free g.D.Digester.address _ p.0 p.1 p.2 begun c.come_to.new.self origin c.args.player.now going c.lead.new.meeting (c.lead.ensures.ready begun origin) c.lead.new.player c.lead.ensures.left c.lead.result
    (λ made. c.lead.ensures.led made going.shared p.0 going.runner seen) c.lead.ensures.stays

pub returns-clause-going : goal.returns-clause-going
returns-clause-going g c = λ place first all is.
    let same = to_z-of_z w64 c.args.epoch c.ranges.epoch in
    let going = goes_as (sym same) (sym c.come_to.ensures.view) is in
    let begun = c.requires.ready.0 in
    let origin = c.come_to.ensures.ready begun c.requires.ready.1 in
    let seen = player_seen g.D.Digester.address _ place first all begun c.come_to.new.self origin c.args.player.now going in
    let on = led_goes g.D.Digester.address _ place first all begun c.come_to.new.self origin c.args.player.now going c.lead.new.meeting (c.lead.ensures.ready begun origin) c.lead.new.player c.lead.ensures.left c.lead.result
    (ap (λ (m : Tells). m.statement) c.come_to.ensures.tells ∙ (c.number_of.ensures ∙ number_is_at going.is)) (λ made. c.lead.ensures.led made going.shared place going.runner seen)
    (λ made. c.lead.ensures.missed made _ going.shared place going.runner seen) c.lead.ensures.stays in
    goes_as same refl
    (goes_further g.D.Digester.address _ place first all (view_at c.lead.new.meeting) c.lead.new.player c.go_on.new.player on
    (c.go_on.ensures.goes on.parts on.shared place on.runner on.is) c.go_on.ensures.left)
