use Rattle.std.proofs.Common.{◌≡◌, ◌++◌, map}
use Rattle.std.specs.List.{range_with_len}
use Rattle.seat_gate.specs.Words.{shown}
use Rattle.seat_gate.specs.Standing.{IsReady, stand_at, stand_view}
use Rattle.seat_gate.specs.Working.{KeepsPlace}
use Rattle.unit_tests.specs.declared.gates.Listed.{Listed}
use Rattle.unit_tests.proofs.gates.mark_all.Given as goal

abbrev pub invariant-loop-note : goal.invariant-loop-note
invariant-loop-note g l = IsReady (λ (list : Listed) opened log. list.entries.items ≡ map shown log) l.stand
    × (stand_at l.stand ≡ stand_at l.fn.stand)
    × KeepsPlace (stand_view l.fn.stand) (stand_view l.stand)
    × (map shown (stand_view l.stand).made ≡ map shown (stand_view l.fn.stand).made ++ map (λ note. record { seat = l.fn.number; note = note }) (range_with_len 0 l.note))
