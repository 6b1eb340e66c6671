use Rattle.std.proofs.Common.{◌∙◌, ap, refl, subst, sym, w64}
use Rattle.std.proofs.lemmas.Int.{to_z-of_z}
use Rattle.seat_gate.specs.History.{View}
use Rattle.seat_gate.specs.Words.{seat_view}
use Rattle.seat_gate.specs.Working.{KeepsPlace}
use Rattle.shared_history.specs.Fitting.{seat_of}
use Rattle.shared_history.specs.Meeting.{Tells}
use Rattle.script_run.proofs.GoingLemmas.{stands_of, state_of}
use Rattle.thread_run.specs.Gate.{view_at}
use Rattle.thread_run.proofs.GoingLemmas.{goes_as, goes_further}
use Rattle.thread_run.proofs.session.run_statements.Goals as goal

pub new-meeting-requires-clause-numbered : goal.new-meeting-requires-clause-numbered
new-meeting-requires-clause-numbered g c κs within =
    let going = c.requires.going.3 in
    going.number ∙ ap seat_of (sym ((stands_of going.is).number ∙ going.is.number))

pub new-meeting-requires-clause-seen : goal.new-meeting-requires-clause-seen
new-meeting-requires-clause-seen g c κs within =
    let going = c.requires.going.3 in
    (going.parts, going.shared, going.spelled, state_of going.is)

pub go_on-requires-after_bounds : goal.go_on-requires-after_bounds
go_on-requires-after_bounds g c κs within =
    let p = c.requires.going in
    (p.3.parts, p.3.shared, p.0, p.3.runner, p.3.is)

pub turns-init : goal.turns-init
turns-init g c = record {
  ready = (c.new-meeting.result, c.new-meeting.ensures.gate, c.new-meeting.ensures.view, c.new-meeting.ensures.ready);
  rests = ap (λ (m : Tells). m.held) c.new-meeting.ensures.tells;
  going = λ place first all going.
      goes_as refl (sym c.new-meeting.ensures.view)
      (goes_further g.D.Digester.address _ place first all (seat_view c.args.seat) c.args.player.now c.go_on.new.player going
      (c.go_on.ensures.goes going.parts going.shared place going.runner going.is) c.go_on.ensures.left);
  settled = c.go_on.ensures.settled;
}

pub pass_turn-requires-clause-ready : goal.pass_turn-requires-clause-ready
pass_turn-requires-clause-ready g c κs within = let ready = c.turns.invariant.ready in (ready.0, ready.3)

pub pass_turn-requires-clause-going : goal.pass_turn-requires-clause-going
pass_turn-requires-clause-going g c κs within =
    let p = c.requires.going in
    (p.0, p.1, p.2, c.turns.invariant.going p.0 p.1 p.2 (goes_as (sym (to_z-of_z w64 c.args.epoch c.ranges.epoch)) refl p.3))

pub turns-preserved : goal.turns-preserved
turns-preserved g c =
    let ready = c.turns.invariant.ready in
    record {
      ready = (ready.0, ready.1, ready.2, c.pass_turn.ensures.ready ready.0 ready.3);
      rests = c.pass_turn.ensures.rests;
      going = λ place first all going. c.pass_turn.ensures.going place first all (c.turns.invariant.going place first all going);
      settled = c.pass_turn.ensures.settled;
    }

pub into_seat-requires-clause-ready : goal.into_seat-requires-clause-ready
into_seat-requires-clause-ready g c κs within = let ready = c.turns.invariant.ready in (ready.0, ready.3)

pub returns-clause-gate : goal.returns-clause-gate
returns-clause-gate g c = let ready = c.turns.invariant.ready in c.into_seat.ensures.gate ∙ (ready.3.gate ∙ ready.1)

pub returns-clause-keeps : goal.returns-clause-keeps
returns-clause-keeps g c =
    let ready = c.turns.invariant.ready in
    subst (λ (v : View). KeepsPlace v (seat_view c.into_seat.result)) ready.2 (subst (λ (v : View). KeepsPlace (view_at ready.0) v) (sym c.into_seat.ensures.view) ready.3.keeps)

pub returns-clause-going : goal.returns-clause-going
returns-clause-going g c = λ place first all going.
    let same = to_z-of_z w64 c.args.epoch c.ranges.epoch in
    goes_as same (sym c.into_seat.ensures.view) (c.turns.invariant.going place first all (goes_as (sym same) refl going))
