-- The words in which a stand is spoken of.
use Rattle.std.specs.Prelude.{◌≡◌, List, [], Bool, true, false}
use Rattle.seat_gate.specs.History.{Spelling, Entry, View, new_view, entries_of, StartsWith, HasMade}
use Rattle.seat_gate.specs.Words.{GateId, gate_id, gate_of, seat_view, held_at, held_view, held_value, IsTaken}
use Rattle.seat_gate.specs.declared.held.Held.{Held}
use Rattle.seat_gate.specs.declared.stand.Spot.{Spot}
use Rattle.seat_gate.specs.declared.stand.Spot.TheVariants.{Away, Seated, Holding}
use Rattle.seat_gate.specs.declared.stand.Stand.{Stand}

-- w is v once it has seen more of the history, in which its entries are those that it made
pub record HasSeenMore (v w : View) : Type 0 where
  pub same : w ≡ record v { seen = w.seen }
  pub prefix : StartsWith w.seen v.seen
  pub own : entries_of v.number w.seen ≡ v.made

module _ {T : Type 0} where
  abbrev pub spot_view : Spot T → View
  spot_view Away = new_view [] 0 [] 0
  spot_view (Seated seat) = seat_view seat
  spot_view (Holding held) = held_view held

  abbrev pub holds_in : Spot T → Bool
  holds_in (Holding held) = true
  holds_in spot = false

  -- the value is held at this gate, and fits the whole history: `take` gives it so, and whoever writes it keeps that
  abbrev pub CanHold : (T → Spelling → List Entry → Type 0) → GateId → Held T → Type 0
  CanHold fits id held = (held_at held ≡ id) × IsTaken held × fits (held_value held) (held_view held).opened (held_view held).seen

  abbrev pub IsReadyIn : (T → Spelling → List Entry → Type 0) → GateId → Spot T → Type 0
  IsReadyIn fits id Away = ⊥
  IsReadyIn fits id (Seated seat) = (gate_of seat ≡ id) × HasMade (seat_view seat)
  IsReadyIn fits id (Holding held) = CanHold fits id held

  -- which gate it is at
  abbrev pub stand_at : Stand T → GateId
  stand_at stand = gate_id stand.gate.now

  -- what its seat knows
  abbrev pub stand_view : Stand T → View
  stand_view stand = spot_view stand.spot

  -- whether it keeps the value
  abbrev pub is_holding : Stand T → Bool
  is_holding stand = holds_in stand.spot

  -- its seat is there, at rest or with a value that fits the whole history
  abbrev pub IsReady : (T → Spelling → List Entry → Type 0) → Stand T → Type 0
  IsReady fits stand = IsReadyIn fits (stand_at stand) stand.spot

  -- its seat is with the caller
  abbrev pub IsEmpty : Stand T → Type 0
  IsEmpty stand = stand.spot ≡ Away
