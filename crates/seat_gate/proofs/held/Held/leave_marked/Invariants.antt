use Rattle.seat_gate.specs.History.{entry}
use Rattle.seat_gate.proofs.held.Held.leave_marked.Given as goal

abbrev pub ghosts-count_entry : goal.ghosts-count_entry
ghosts-count_entry g a = record { entry = entry a.seat.now.me.0.view.number a._note (g.T.Kept.spelled a._value.now) }
