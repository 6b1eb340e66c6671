-- Sessions before their first statements.
use Rattle.std.specs.Prelude.{◌≡◌, ℕ, zero, suc, ◌≤◌, List, [], ◌∷◌, ◌++◌, length, Some, slice_get, vec_capacity}
use Rattle.script_text.specs.declared.scripts.Line.{Line}
use Rattle.plain_sessions.specs.Sessions.{new_session}
use Rattle.run_laws.specs.Orders.{count_of}
use Rattle.session_state.specs.Standing.{SessionStands}
use Rattle.script_run.specs.Following.{texts_of}
use Rattle.script_run.specs.declared.players.Player.{Player}
use Rattle.script_run.specs.declared.players.Stage.TheVariants as stage
use Rattle.script_run.specs.declared.running.Speaker.{Speaker}

-- how many of the lines each of the first sessions has
abbrev pub counts : ℕ → List Line → List ℕ
counts zero lines = []
counts (suc sessions) lines = counts sessions lines ++ count_of sessions lines ∷ []

-- the session of this name at this place, silent so far, with 16 free pages and room for so many replies
pub record IsNew {D : Type 0} (address : List ℕ → List ℕ) (place : ℕ) (name : List ℕ) (statements : ℕ) (speaker : Speaker D) : Type 0 where
  pub stands : SessionStands address speaker.session (new_session place name)
  pub base : speaker.session.draft.chunks.base ≡ []
  pub pages : speaker.session.draft.free ≡ 16
  pub silent : speaker.replies.items ≡ []
  pub room : statements ≤ vec_capacity speaker.replies

-- one for each name, by its place
pub record AreNew {D : Type 0} (address : List ℕ → List ℕ) (names : List (List ℕ)) (statements : List ℕ) (speakers : List (Speaker D)) : Type 0 where
  pub lists : length speakers ≡ length names
  pub each : (place count : ℕ) (speaker : Speaker D) (name : List ℕ) → slice_get speakers place ≡ Some speaker → slice_get names place ≡ Some name → slice_get statements place ≡ Some count
      → IsNew address place name count speaker

-- a new session with the texts of its lines
pub record IsNewPlayer {D : Type 0} (address : List ℕ → List ℕ) (place : ℕ) (name : List ℕ) (lines : List Line) (statements : ℕ) (player : Player D) : Type 0 where
  pub stands : SessionStands address player.session (new_session place name)
  pub base : player.session.draft.chunks.base ≡ []
  pub pages : player.session.draft.free ≡ 16
  pub silent : player.replies.items ≡ []
  pub room : statements ≤ vec_capacity player.replies
  pub texts : player.texts ≡ texts_of place lines
  pub free : player.stage ≡ stage.Free

pub record AreNewPlayers {D : Type 0} (address : List ℕ → List ℕ) (names : List (List ℕ)) (lines : List Line) (statements : List ℕ) (players : List (Player D)) : Type 0 where
  pub lists : length players ≡ length names
  pub each : (place count : ℕ) (player : Player D) (name : List ℕ) → slice_get players place ≡ Some player → slice_get names place ≡ Some name → slice_get statements place ≡ Some count
      → IsNewPlayer address place name lines count player
