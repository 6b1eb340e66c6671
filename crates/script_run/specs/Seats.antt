-- The seat of a session at its meeting, and the shared database between two turns of one thread.
use Rattle.std.specs.Prelude.{◌≡◌, ℕ, ◌-◌, ◌*◌, false, List, slice_index_or}
use Rattle.session_state.specs.Changes.{Parts}
use Rattle.session_state.specs.declared.sessions.Session.{Session}
use Rattle.shared_history.specs.Lone.{IsAlone, tells_alone}
use Rattle.shared_history.specs.Meeting.{Tells, moments_by}
use Rattle.shared_history.specs.declared.lone.LoneDb.{LoneDb}
use Rattle.serving.specs.Steps.{number_at}

-- the meeting is this session's, in its next statement, and holds nothing
pub record IsSeatOf {D : Type 0} (m : Tells) (session : Session D) : Type 0 where
  pub number : m.session ≡ session.number
  pub statement : m.statement ≡ number_at session.position
  pub free : m.held ≡ false

-- no call of a meeting is under way
pub record IsAtRest {D : Type 0} (address : List ℕ → List ℕ) (lone : LoneDb D) : Type 0 where
  pub alone : IsAlone address lone lone
  pub free : (tells_alone lone).held ≡ false

-- for how many more moments of a session there is room: two for each of its statements, less those that it has made
abbrev pub room_at : Parts → ℕ → ℕ
room_at parts place = 2 * slice_index_or parts.numbers place 0 - moments_by place parts.moments
