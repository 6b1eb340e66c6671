-- The words in which a gate, a seat and a value that is held are spoken of.
use Rattle.std.specs.Prelude.{◌≡◌, ◌≢◌, ℕ, ◌<◌, true, false, List, [], ◌∷◌, None}
use mathlib.Core.Option.{some}
use Rattle.std.specs.List.{AllByRecursion}
use lib.ListN.{get_elem?}
use Rattle.atomic_table.specs.Seated.{TableId}
use Rattle.seat_gate.specs.History.{Spelling, Entry, Past, View, entries_of, StartsWith, HasMade, OneOpening}
use Rattle.seat_gate.specs.Places.{only}
use Rattle.seat_gate.specs.declared.entry.Entry.{Entry as Shown}
use Rattle.seat_gate.specs.declared.gate.Gate.{Gate}
use Rattle.seat_gate.specs.declared.seat.Seat.{Seat}
use Rattle.seat_gate.specs.declared.held.Held.{Held}

-- how a gate is told from others
abbrev pub GateId : Type 0
GateId = TableId

-- which gate it is
abbrev pub gate_id : {T : Type 0} → Gate T → GateId
gate_id gate = gate.table.shared.table_id

-- which gate the seat is of
abbrev pub gate_of : Seat → GateId
gate_of seat = seat.badge.table_id

-- what the seat knows
abbrev pub seat_view : Seat → View
seat_view seat = (only seat.badge.views).view

module _ {T : Type 0} where
  abbrev pub held_value : Held T → T
  held_value held = held.value

  -- what the seat that holds the value knows: it has seen the whole history
  abbrev pub held_view : Held T → View
  held_view held = held.seat.me.0.view

  -- which gate the value was taken at
  abbrev pub held_at : Held T → GateId
  held_at held = gate_id held.gate.now

  -- it is this seat's turn at that gate, it holds the slot, emptied, and has made its entries of the history. `enter` gives it so, and no call changes that
  abbrev pub IsTaken : Held T → Type 0
  IsTaken held = (held.seat.table_id ≡ held_at held) × (held.seat.me.0.serves ≡ true) × (held.seat.me.0.spent ≡ false) × (held.seat.me.1 ≡ (0, None) ∷ []) × HasMade (held_view held)

-- an entry as running code knows it
abbrev pub shown : Entry → Shown
shown e = record { seat = e.seat; note = e.note }

-- a seat of this number was joined in
abbrev pub HasJoined : ℕ → View → Type 0
HasJoined number v = (k : ℕ) × (past : Past) × (get_elem? v.joined k ≡ some past) × (past.number ≡ number)

-- the seats of all numbers below this one were joined in, but for the seat itself
abbrev pub HasJoinedBelow : ℕ → View → Type 0
HasJoinedBelow n v = (k : ℕ) → k < n → k ≢ v.number → HasJoined k v

-- what was seen is a beginning of the whole history, in which the entries of this number are those made
abbrev pub StandsIn : List Entry → ℕ → List Entry → List Entry → Type 0
StandsIn log number seen made = StartsWith log seen × (entries_of number log ≡ made)

-- the whole history of a gate that is closed: the value fits it, what each seat had seen is a beginning of it, of one opening, the entries of each number are those its seat made, and each entry is of a seat that was given out
pub record IsWhole {T : Type 0} (fits : T → Spelling → List Entry → Type 0) (value : T) (v : View) (log : List Entry) : Type 0 where
  pub fit : fits value v.opened log
  pub own : StandsIn log v.number v.seen v.made
  pub joined : AllByRecursion (λ p. StandsIn log p.number p.seen p.made) v.joined
  pub opened_as : OneOpening v
  pub known : AllByRecursion (λ e. e.seat < v.given) log
