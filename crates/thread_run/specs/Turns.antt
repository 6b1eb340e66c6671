-- The moments that a session made, as its seat tells them.
use Rattle.std.specs.Prelude.{List, map}
use Rattle.run_laws.specs.Histories.{ToldTurn}
use Rattle.seat_gate.specs.History.{Spelling, View}
use Rattle.seat_gate.specs.Told.{SeatTurn, told_of}

-- a turn's note is its statement's number
abbrev pub told_turn : SeatTurn → ToldTurn Spelling
told_turn turn = record { statement = turn.note; found = turn.found; left = turn.left }

-- the session's own moments, of what its seat has seen
abbrev pub turns_of : View → List (ToldTurn Spelling)
turns_of view = map told_turn (told_of view)
