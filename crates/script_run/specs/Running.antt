-- A run under way.
use Rattle.std.specs.Prelude.{◌≡◌, ◌≢◌, ℕ, ℤ, ◌*◌, ◌≤◌, true, List, [], ◌∷◌, ◌++◌, length, take, Some, slice_get, vec_capacity}
use Rattle.std.specs.List.{AllByRecursion, list_all}
use Rattle.chunk_store.specs.Chunks.{Lists}
use Rattle.script_text.specs.Collisions.{TellsTruly}
use Rattle.script_text.specs.Output.{shortage}
use Rattle.script_text.specs.declared.replies.Reply.{Reply}
use Rattle.script_text.specs.declared.scripts.Line.{Line}
use Rattle.script_text.specs.declared.scripts.Script.{Script}
use Rattle.plain_sessions.specs.Commands.{command}
use Rattle.plain_sessions.specs.Records.{Shared}
use Rattle.plain_sessions.specs.Sessions as plain
use Rattle.plain_sessions.specs.declared.commands.Command.{Command}
use Rattle.run_laws.specs.Lines.{IsRunTo, Spoken}
use Rattle.run_laws.specs.Orders.{count_of}
use Rattle.run_laws.specs.Turns.{ServedIn, Turn, TurnsFollow, moments_of}
use Rattle.session_state.specs.Changes.{Parts, StateStands}
use Rattle.session_state.specs.declared.sessions.Session.{Session}
use Rattle.shared_history.specs.Meeting.{moments_by}
use Rattle.serving.specs.Serving.{IsBefore, is_sound_reply}
use Rattle.script_run.specs.Opening.{counts}
use Rattle.script_run.specs.Seats.{IsAtRest}
use Rattle.script_run.specs.declared.running.Running.{Running}
use Rattle.script_run.specs.declared.running.Speaker.{Speaker}

-- a statement was served, and no other session acted between its moments: the plain session and the shared state after it, and the turns between
pub record Serves {D : Type 0} (address : List ℕ → List ℕ) (epoch : ℤ) (p : plain.Session) (asked : Command) (shared : Shared) (old new : Parts) (session : Session D) (reply : Reply) : Type 0 where
  pub after : plain.Session
  pub last : Shared
  pub turns : List Turn
  pub is : ServedIn address epoch (shortage reply) p asked turns (after, reply)
  pub follows : TurnsFollow shared turns last
  pub next : IsBefore address session new after last
  pub moments : new.moments ≡ old.moments ++ moments_of p.number turns
  pub numbers : new.numbers ≡ old.numbers
  pub number : after.number ≡ p.number
  -- the other sessions stay on their branches
  pub others : (place : ℕ) → place ≢ p.number → slice_get last.places place ≡ slice_get shared.places place
  -- and all chunks that were there are there
  pub grown : Lists old.chunks new.chunks

-- a session's next statement was served, and its reply was kept
pub record Speaks {D : Type 0} (address : List ℕ → List ℕ) (epoch : ℤ) (p : plain.Session) (asked : Command) (shared : Shared) (old new : Parts) (before after : Speaker D) : Type 0 where
  pub reply : Reply
  pub serves : Serves address epoch p asked shared old new after.session reply
  pub said : after.replies.items ≡ before.replies.items ++ reply ∷ []
  pub sound : is_sound_reply reply ≡ true
  pub truly : TellsTruly address reply

-- the session at this place stands before a statement, has given these replies, and has room for those to all of its lines
pub record IsSpeaker {D : Type 0} (address : List ℕ → List ℕ) (lines : List Line) (parts : Parts) (shared : Shared) (place : ℕ) (p : plain.Session) (replies : List Reply) (speaker : Speaker D) : Type 0 where
  pub before : IsBefore address speaker.session parts p shared
  pub number : p.number ≡ place
  pub said : speaker.replies.items ≡ replies
  pub sound : list_all is_sound_reply replies ≡ true
  pub truly : AllByRecursion (TellsTruly address) replies
  pub room : count_of place lines ≤ vec_capacity speaker.replies

-- those of a run
pub record AreSpeakers {D : Type 0} (address : List ℕ → List ℕ) (lines : List Line) (parts : Parts) (shared : Shared) (spoken : Spoken) (speakers : List (Speaker D)) : Type 0 where
  pub lists : length speakers ≡ length spoken
  pub each : (place : ℕ) (p : plain.Session) (replies : List Reply) (speaker : Speaker D) → slice_get spoken place ≡ Some (p, replies) → slice_get speakers place ≡ Some speaker
      → IsSpeaker address lines parts shared place p replies speaker

-- the first lines of the script were run: the shared database and the sessions stand for those that the machine has come to along the
-- moments so far, no turn is under way, and no session has made more than two moments a line
pub record IsRunningAt {D : Type 0} (address : List ℕ → List ℕ) (epoch : ℤ) (script : Script) (count : ℕ) (running : Running D) : Type 0 where
  pub shared : Shared
  pub spoken : Spoken
  pub run : IsRunTo command address epoch script count running.lone.db.parts.moments shared spoken
  pub stands : StateStands address running.lone.db.parts shared
  pub speakers : AreSpeakers address script.lines running.lone.db.parts shared spoken running.speakers.items
  pub rest : IsAtRest address running.lone
  pub numbers : running.lone.db.parts.numbers ≡ counts (length script.names) script.lines
  pub few : (place : ℕ) → moments_by place running.lone.db.parts.moments ≤ 2 * count_of place (take count script.lines)
