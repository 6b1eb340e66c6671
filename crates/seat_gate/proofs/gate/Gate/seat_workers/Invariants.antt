use Rattle.std.proofs.Common.{◌≡◌, length}
use Rattle.seat_gate.specs.Words.{gate_of, gate_id, seat_view}
use Rattle.seat_gate.specs.Working.{AreNewcomers, giving_out}
use Rattle.seat_gate.proofs.gate.Gate.seat_workers.Given as goal

abbrev pub invariant-loop-work : goal.invariant-loop-work
invariant-loop-work g l = (gate_of l.first ≡ gate_id l.self) × (seat_view l.first ≡ giving_out (length l.yielded) (seat_view l.fn.first)) × AreNewcomers (gate_id l.self) (seat_view l.fn.first) l.yielded l.workers.items
