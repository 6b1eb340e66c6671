-- The turns of one seat, in its order: what it found, and what it left.
use Rattle.std.specs.Prelude.{ℕ, ◌==◌, if◌then◌else◌, List, [], ◌∷◌}
use Rattle.seat_gate.specs.History.{Spelling, Entry, View}

pub record SeatTurn : Type 0 where
  pub note : ℕ
  pub found : Spelling
  pub left : Spelling

abbrev pub turn_from : Spelling → Entry → SeatTurn
turn_from found e = record { note = e.note; found = found; left = e.left }

-- the spelling that a history ends with
abbrev pub left_last : Spelling → List Entry → Spelling
left_last before [] = before
left_last before (e ∷ log) = left_last e.left log

abbrev pub told_by : ℕ → Spelling → List Entry → List SeatTurn
told_by seat before [] = []
told_by seat before (e ∷ log) = if e.seat == seat then turn_from before e ∷ told_by seat e.left log else told_by seat e.left log

-- the seat's own turns, of what it has seen
abbrev pub told_of : View → List SeatTurn
told_of v = told_by v.number v.opened v.seen
