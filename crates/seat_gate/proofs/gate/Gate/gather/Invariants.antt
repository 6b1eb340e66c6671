use Rattle.std.proofs.Common.{◌≡◌, ℕ, ◌≤◌, take, slice_index_or}
use Rattle.seat_gate.specs.History.{gathered}
use Rattle.seat_gate.specs.Words.{gate_of, gate_id, seat_view}
use Rattle.seat_gate.specs.Working.{views_of, works_of}
use Rattle.seat_gate.specs.declared.workers.Worker.{Worker}
use Rattle.seat_gate.proofs.gate.Gate.gather.Given as goal

abbrev pub invariant-loop-worker : goal.invariant-loop-worker
invariant-loop-worker g l = (gate_of l.last ≡ gate_id l.self)
    × (seat_view l.last ≡ gathered (seat_view l.fn.first) (views_of (take l.worker-index l.fn.workers)))
    × (works_of l.workers ≡ works_of l.fn.workers)
    × ((k : ℕ) (d : Worker g.row.W.Denot) → l.worker-index ≤ k → slice_index_or l.workers k d ≡ slice_index_or l.fn.workers k d)
