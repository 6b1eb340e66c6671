-- How each kind of step changes where a seat stands.
use Rattle.std.specs.Prelude.{ℕ, Bool, true, false, ◌&&◌, not, List, [], ◌∷◌}
use Rattle.seat_gate.specs.History.{Spelling, Entry, View, first_view, new_view, parted, newcomer, joined_with, having_seen, with_entry, shorter}
use Rattle.seat_gate.specs.declared.place.SeatState.{SeatState}

abbrev pub at_rest : View → SeatState
at_rest v = record { view = v; recalls = []; waits = false; ticket = 0; serves = false; spent = false }

abbrev pub first_place : Spelling → SeatState
first_place opened = at_rest (first_view opened)

-- what is left of a seat that was joined into another
abbrev pub gone : SeatState
gone = record (at_rest (new_view [] 0 [] 0)) { spent = true }

abbrev pub giving : SeatState → SeatState
giving p = record p { view = parted p.view }

abbrev pub given_out : SeatState → SeatState
given_out p = at_rest (newcomer p.view)

abbrev pub taking_in : SeatState → SeatState → SeatState
taking_in p q = record p { view = joined_with p.view q.view; recalls = shorter p.view.seen q.view.seen }

abbrev pub drawn : ℕ → SeatState → SeatState
drawn ticket p = record p { waits = true; ticket = ticket }

-- its turn has come, and it has seen the whole history
abbrev pub served : List Entry → SeatState → SeatState
served log p = record p { view = having_seen log p.view; recalls = []; serves = true }

abbrev pub marked : Entry → SeatState → SeatState
marked e p = record p { view = with_entry e p.view; recalls = [] }

abbrev pub done : SeatState → SeatState
done p = record p { waits = false; serves = false }

-- the only place of a list of one
abbrev pub only : List SeatState → SeatState
only [] = gone
only (p ∷ ps) = p

-- one place, of a seat at rest
abbrev pub is_at_rest : List SeatState → Bool
is_at_rest (p ∷ []) = not p.waits && (not p.serves && not p.spent)
is_at_rest ps = false
