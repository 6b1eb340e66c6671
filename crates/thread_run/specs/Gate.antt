-- What a meeting at a gate tells, and when it is ready.
use Rattle.std.specs.Prelude.{◌≡◌, ℕ, ◌<◌, ◌^◌, Bool, false, List, Some}
use Rattle.plain_sessions.specs.Records.{Shared}
use Rattle.session_state.specs.Changes.{Parts, StateStands}
use Rattle.seat_gate.specs.History.{Entry, HasMade, Spelling, View}
use Rattle.seat_gate.specs.Standing.{IsReady, is_holding, stand_at, stand_view}
use Rattle.seat_gate.specs.Told.{left_last}
use Rattle.seat_gate.specs.Words.{GateId}
use Rattle.seat_gate.specs.Working.{KeepsPlace}
use Rattle.seat_gate.specs.declared.stand.Stand.{Stand}
use Rattle.shared_history.specs.Fitting.{Fits, seat_of}
use Rattle.shared_history.specs.Meeting.{Tells}
use Rattle.shared_history.specs.Noting.{told_by_notes}
use Rattle.shared_history.specs.Reading.{parts_of}
use Rattle.shared_history.specs.Spelling.{spelling_of}
use Rattle.shared_history.specs.declared.gated.GatedDb.{GatedDb}
use Rattle.shared_history.specs.declared.notes.Notes.{Notes}
use Rattle.thread_run.specs.Turns.{turns_of}
use Rattle.thread_run.specs.declared.at_gate.AtGate.{AtGate}

-- ---- what it tells

-- the shared value is seen as the seat saw it last, and the moments made are the seat's own
abbrev pub gate_tells : View → Bool → Notes → Tells
gate_tells view held notes = told_by_notes (parts_of (left_last view.opened view.seen)) held false (Some (turns_of view)) notes

-- ---- when it is ready

abbrev pub FitsGated : {D : Type 0} → (List ℕ → List ℕ) → GatedDb D → Spelling → List Entry → Type 0
FitsGated address gated opened log = Fits address gated.db opened log

-- the stand is the session's own at the gate of its beginning, and what its seat saw last is the spelling of parts that stand for a state
pub record IsAtGate {D : Type 0} (address : List ℕ → List ℕ) (first now : Stand (GatedDb D)) (beginning notes : Notes) : Type 0 where
  pub gate : stand_at now ≡ stand_at first
  pub ready : IsReady (FitsGated address) now
  pub own : HasMade (stand_view now)
  pub keeps : KeepsPlace (stand_view first) (stand_view now)
  pub session : notes.session ≡ beginning.session
  pub numbered : (stand_view now).number ≡ seat_of notes.session
  pub small : notes.statement < 2 ^ 32
  pub parts : Parts
  pub spelled : spelling_of parts ≡ left_last (stand_view now).opened (stand_view now).seen
  pub shared : Shared
  pub stands : StateStands address parts shared

module _ {R D : Type 0} where
  -- it is ready, and came from such a beginning
  abbrev pub IsFrom : (List ℕ → List ℕ) → AtGate R D → AtGate R D → Type 0
  IsFrom address first at = IsAtGate address first.stand at.stand first.notes at.notes

  -- which gate it is at
  abbrev pub gate_at : AtGate R D → GateId
  gate_at at = stand_at at.stand

  -- what its seat knows
  abbrev pub view_at : AtGate R D → View
  view_at at = stand_view at.stand

  abbrev pub tells_at : AtGate R D → Tells
  tells_at at = gate_tells (view_at at) (is_holding at.stand) at.notes
