-- The words in which workers are spoken of.
use Rattle.std.specs.Prelude.{◌≡◌, ℕ, ◌+◌, ◌<◌, length, slice_index_or, List, [], map, Option, Some, None}
use Rattle.seat_gate.specs.History.{View, new_view, newcomer}
use Rattle.seat_gate.specs.Words.{GateId, gate_of, seat_view}
use Rattle.seat_gate.specs.declared.seat.Seat.{Seat}
use Rattle.seat_gate.specs.declared.workers.Worker.{Worker}

-- a seat of this gate is there
abbrev pub IsSeated : GateId → Option Seat → Type 0
IsSeated id None = ⊥
IsSeated id (Some seat) = gate_of seat ≡ id

-- what the seat knows that is there
abbrev pub view_in : Option Seat → View
view_in None = new_view [] 0 [] 0
view_in (Some seat) = seat_view seat

-- v, after it gave out n more
abbrev pub giving_out : ℕ → View → View
giving_out n v = record v { given = v.given + n }

-- only what the seat has seen and made may have changed
pub record KeepsPlace (v w : View) : Type 0 where
  pub opened : w.opened ≡ v.opened
  pub number : w.number ≡ v.number
  pub joined : w.joined ≡ v.joined
  pub given : w.given ≡ v.given

-- these are the seats of the numbers 1, 2 and so on, which know of no number given out, and the first seat gave out no more
pub record AreAllGivenOut (first : View) (views : List View) : Type 0 where
  pub number : first.number ≡ 0
  pub counted : first.given ≡ length views + 1
  pub numbers : (k : ℕ) (d : View) → k < length views → (slice_index_or views k d).number ≡ k + 1
  pub givens : (k : ℕ) (d : View) → k < length views → (slice_index_or views k d).given ≡ 0

module _ {W : Type 0} where
  abbrev pub views_of : List (Worker W) → List View
  views_of workers = map (λ (w : Worker W). view_in w.seat) workers

  abbrev pub works_of : List (Worker W) → List W
  works_of workers = map (λ (w : Worker W). w.work) workers

  -- the worker of this work has the seat that this view gives out next
  pub record IsNewcomer (id : GateId) (v : View) (given : W) (w : Worker W) : Type 0 where
    pub seated : IsSeated id w.seat
    pub view : view_in w.seat ≡ newcomer v
    pub work : w.work ≡ given

  -- a worker for each work, in their order, with the seats that the first gives out one after another
  pub record AreNewcomers (id : GateId) (first : View) (works : List W) (ws : List (Worker W)) : Type 0 where
    pub many : length ws ≡ length works
    pub each : (k : ℕ) (d : W) (e : Worker W) → k < length works → IsNewcomer id (giving_out k first) (slice_index_or works k d) (slice_index_or ws k e)
