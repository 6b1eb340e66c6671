-- The gate's rule: what holds of its words, its slot and the places of all seats, between any two atomic steps.
-- Tickets are numbers without end, and the words hold them modulo 2^64. Fewer than 2^32 seats wait, so no ticket is mistaken for another. Of the last word, on which seats sleep, it says nothing.
use Rattle.std.specs.Prelude.{◌≡◌, ◌≢◌, ℕ, ◌+◌, ◌%◌, ◌<◌, ◌≤◌, true, false, if◌then◌else◌, List, [], ◌∷◌, length, slice_index, Option, Some}
use Rattle.std.specs.List.{AllByRecursion}
use mathlib.Core.Option.{some}
use lib.ListN.{get_elem?}
use Rattle.atomic_table.specs.Table.{State, Me}
use Rattle.seat_gate.specs.History.{Spelling, Entry, Past, entries_of, StartsWith, OneOpening}
use Rattle.seat_gate.specs.Places.{drawn, served, done}
use Rattle.seat_gate.specs.declared.place.SeatState.{SeatState}

abbrev pub turn : ℕ
turn = 18446744073709551616

-- how many seats have a ticket
abbrev pub waiting : List SeatState → ℕ
waiting [] = 0
waiting (p ∷ ps) = (if p.waits then 1 else 0) + waiting ps

-- a seat that was joined away had seen a beginning of the history of this gate's opening, and made the entries of its number
pub record PastFits (opened : Spelling) (places : List SeatState) (log : List Entry) (past : Past) : Type 0 where
  pub opened_as : past.opened ≡ opened
  pub prefix : StartsWith log past.seen
  pub made : entries_of past.number log ≡ past.made
  pub gone : (p : SeatState) × (get_elem? places past.number ≡ some p) × (p.spent ≡ true)

-- what the rule says of the seat at place i: the keeper alone knows how many seats were given out
pub record SeatFits (opened : Spelling) (places : List SeatState) (serving keeper : ℕ) (log : List Entry) (i : ℕ) (p : SeatState) : Type 0 where
  pub prefix : StartsWith log p.view.seen
  pub recalled : StartsWith p.view.seen p.recalls
  pub in_line : p.waits ≡ true → (serving ≤ p.ticket) × (p.ticket < serving + waiting places)
  pub on_turn : p.serves ≡ true → (p.waits ≡ true) × (p.ticket ≡ serving) × (p.view.seen ≡ log)
  pub over : p.spent ≡ true → (p.waits ≡ false) × (p.serves ≡ false)
  pub number : p.spent ≡ false → p.view.number ≡ i
  pub opened_as : p.spent ≡ false → p.view.opened ≡ opened
  pub made : p.spent ≡ false → entries_of i log ≡ p.view.made
  pub given : 0 < p.view.given → (p.view.given ≡ length places) × (i ≡ keeper)
  pub first : p.spent ≡ false → i ≡ 0 → 0 < p.view.given
  pub joined : AllByRecursion (PastFits opened places log) p.view.joined

-- the tickets from serving on are those of the seats that wait; the history has as many entries as the count, each of a seat that was given out; and the value is in the slot unless a seat has its turn
pub record Rule {T : Type 0} (fits : T → Spelling → List Entry → Type 0) (opened : Spelling) (s : State (Option T) SeatState) (serving keeper : ℕ) (log : List Entry) : Type 0 where
  pub words : length s.words ≡ 4
  pub ticket_word : slice_index s.words 0 ≡ (serving + waiting s.views) % turn
  pub serving_word : slice_index s.words 1 ≡ serving % turn
  pub count_word : slice_index s.words 2 ≡ length log % turn
  pub few : length s.views < 4294967296
  pub seats : (i : ℕ) (p : SeatState) → get_elem? s.views i ≡ some p → SeatFits opened s.views serving keeper log i p
  pub apart : (i j : ℕ) (p q : SeatState) → get_elem? s.views i ≡ some p → get_elem? s.views j ≡ some q → p.waits ≡ true → q.waits ≡ true → p.ticket ≡ q.ticket → i ≡ j
  pub known : AllByRecursion (λ e. e.seat < length s.views) log
  pub value : ((i : ℕ) (p : SeatState) → get_elem? s.views i ≡ some p → p.serves ≡ false) → (value : T) × (get_elem? s.homes 0 ≡ some (some (Some value))) × fits value opened log

module _ {T : Type 0} where
  abbrev pub Ordered : (T → Spelling → List Entry → Type 0) → Spelling → State (Option T) SeatState → Type 0
  Ordered fits opened s = (serving : ℕ) × (keeper : ℕ) × (log : List Entry) × Rule fits opened s serving keeper log

  -- what a step tells its seat: of the seat before, the word found and the seat after. A ticket was drawn
  abbrev pub Drew : Me (Option T) SeatState → ℕ → Me (Option T) SeatState → Type 0
  Drew m n w = (ticket : ℕ) × (w ≡ (drawn ticket m.0, m.1)) × (n ≡ ticket % turn)

  -- a ticket was drawn where the word found is the one looked for
  abbrev pub DrewWhere : ℕ → Me (Option T) SeatState → ℕ → Me (Option T) SeatState → Type 0
  DrewWhere wanted m n w = (n ≡ wanted → Drew m n w) × (n ≢ wanted → w ≡ m)

  -- the turn has come: the seat has the value, which fits the whole history
  abbrev pub HasTurn : (T → Spelling → List Entry → Type 0) → Me (Option T) SeatState → Me (Option T) SeatState → Type 0
  HasTurn fits m w = (value : T) × (log : List Entry) × (w ≡ (served log m.0, (0, Some value) ∷ m.1)) × fits value m.0.view.opened log × StartsWith log m.0.view.seen × (entries_of m.0.view.number log ≡ m.0.view.made)

  -- the turn has come where the word is the seat's ticket
  abbrev pub Looked : (T → Spelling → List Entry → Type 0) → Me (Option T) SeatState → ℕ → Me (Option T) SeatState → Type 0
  Looked fits m n w = (n ≡ m.0.ticket % turn → HasTurn fits m w) × (n ≢ m.0.ticket % turn → w ≡ m)

  -- the turn was given to the next
  abbrev pub Rose : Me (Option T) SeatState → Me (Option T) SeatState → Type 0
  Rose m w = w ≡ (done m.0, [])

  -- of two beginnings the longer has the shorter, and all are of one opening
  abbrev pub Recalled : Me (Option T) SeatState → Me (Option T) SeatState → Type 0
  Recalled m w = (w ≡ m) × StartsWith m.0.view.seen m.0.recalls × OneOpening m.0.view
