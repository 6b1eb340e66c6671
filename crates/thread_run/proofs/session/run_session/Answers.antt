use Rattle.std.proofs.Common.{◌≡◌, ◌∙◌, ℤ, ap, subst, sym, w64}
use Rattle.std.proofs.lemmas.Int.{to_z-of_z}
use Rattle.seat_gate.specs.History.{View}
use Rattle.seat_gate.specs.Words.{seat_view}
use Rattle.seat_gate.specs.Working.{KeepsPlace, view_in}
use Rattle.thread_run.specs.Going.{IsGoing}
use Rattle.thread_run.proofs.session.run_session.Goals as goal

pub returns : goal.returns
returns g c =
    let there : seat_view c.unwrap-seat.result ≡ view_in c.args.worker.now.seat = ap view_in (sym c.unwrap-seat.ensures ∙ c.take.ensures.value) in
    record {
      seated = c.run_statements-seat.ensures.gate;
      own = c.run_statements-seat.ensures.own;
      keeps = subst (λ (v : View). KeepsPlace v (seat_view c.run_statements-seat.result)) there c.run_statements-seat.ensures.keeps;
      going = λ place first all going.
          subst (λ (e : ℤ). IsGoing g.D.Digester.address e place first all (seat_view c.run_statements-seat.result) c.run_statements-seat.new.player) (to_z-of_z w64 c.args.epoch c.ranges.epoch)
          (c.run_statements-seat.ensures.going place first all
          (subst (λ (e : ℤ). IsGoing g.D.Digester.address e place first all (seat_view c.unwrap-seat.result) c.args.worker.now.work) (sym (to_z-of_z w64 c.args.epoch c.ranges.epoch))
          (subst (λ (v : View). IsGoing g.D.Digester.address c.args.epoch place first all v c.args.worker.now.work) (sym there) going)));
      through = c.run_statements-seat.ensures.through;
      free = c.run_statements-seat.ensures.free;
    }
