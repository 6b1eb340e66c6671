-- What is known of a statement after one of its moments, before the session goes on.
use Rattle.std.specs.Prelude.{◌≡◌, ℕ, ◌+◌, ℤ, List, [], ◌∷◌, ◌++◌, None, Some}
use Rattle.chunk_store.specs.Chunks.{Lists}
use Rattle.chunk_store.specs.Drafts.{chunks_of}
use Rattle.script_text.specs.Output.{shortage}
use Rattle.script_text.specs.declared.replies.Reply.{Reply}
use Rattle.plain_sessions.specs.Moments.{Past, Still, moment_in, moment_of, past}
use Rattle.plain_sessions.specs.Records.{Shared}
use Rattle.plain_sessions.specs.Runs.{awaiting}
use Rattle.plain_sessions.specs.Sessions as plain
use Rattle.plain_sessions.specs.Sessions.{Transaction, within}
use Rattle.plain_sessions.specs.declared.commands.Command.{Command}
use Rattle.plain_sessions.specs.declared.commands.Command.TheVariants.{Data}
use Rattle.plain_sessions.specs.declared.commands.Work.{Work}
use Rattle.run_laws.specs.Turns.{InOneTurn}
use Rattle.session_state.specs.Changes.{Parts, StateStands}
use Rattle.session_state.specs.Standing.{SessionStands}
use Rattle.session_state.specs.declared.sessions.Position.{Position}
use Rattle.session_state.specs.declared.sessions.Position.TheVariants as place
use Rattle.session_state.specs.declared.sessions.Session.{Session}
use Rattle.shared_db.specs.Shared.{noted}
use Rattle.serving.specs.Branching.{Went}
use Rattle.serving.specs.Serving.{Awaits, turn_at}
use Rattle.serving.specs.Steps.{IsStillAt}
use Rattle.serving.specs.declared.meeting.Met.{Met}
use Rattle.serving.specs.declared.meeting.Met.TheVariants as met
use Rattle.serving.specs.declared.meeting.Pending.{Pending}

-- the plain session and the shared state after the answer at one moment; the session hasn't gone on yet
pub record Answered {D : Type 0} (address : List ℕ → List ℕ) (epoch : ℤ) (p : plain.Session) (asked : Command) (shared : Shared) (old new : Parts) (session : Session D) (reply : Reply) : Type 0 where
  pub said : plain.Session
  pub last : Shared
  pub is : InOneTurn address epoch (shortage reply) p asked (turn_at p shared last) (past p.statement (said, reply))
  pub session_stands : SessionStands address session said
  pub still : IsStillAt p said
  pub state_stands : StateStands address new last
  pub places : last.places ≡ shared.places
  pub later : Lists session.draft.chunks.base new.chunks
  pub grown : Lists old.chunks new.chunks
  pub moments : new.moments ≡ old.moments ++ record { session = p.number; statement = p.statement } ∷ []
  pub numbers : new.numbers ≡ old.numbers

-- the same of a statement's start where its decision is to come
pub record HasStartedTo {D : Type 0} (address : List ℕ → List ℕ) (epoch : ℤ) (p : plain.Session) (asked : Command) (shared : Shared) (old new : Parts) (session : Session D) (wanted : Pending) : Type 0 where
  pub work : Work
  pub asked_is : asked ≡ Data work
  pub outside : p.transaction ≡ None
  pub transaction : Transaction
  pub place : plain.Place
  pub started : moment_of address epoch shared p asked ≡ Some (shared, Still transaction place)
  pub awaits : Awaits address (chunks_of session.draft.chunks) wanted (awaiting p transaction place) transaction work
  pub session_stands : SessionStands address session (within p transaction)
  pub later : Lists session.draft.chunks.base old.chunks
  pub new_is : new ≡ noted p.number p.statement old

-- what is known after the statement's first moment
abbrev pub HasMet : {D : Type 0} → (List ℕ → List ℕ) → ℤ → plain.Session → Command → Shared → Parts → Parts → Session D → Met → Type 0
HasMet address epoch p asked shared old new session (met.Answered reply) = Went address epoch p asked shared old new session reply
HasMet address epoch p asked shared old new session (met.Pending wanted) = HasStartedTo address epoch p asked shared old new session wanted

-- a decision behind a start, before the session goes on
pub record Concluded {D : Type 0} (address : List ℕ → List ℕ) (epoch : ℤ) (q : plain.Session) (asked : Command) (shared : Shared) (old new : Parts) (session : Session D) (reply : Reply) : Type 0 where
  pub said : plain.Session
  pub last : Shared
  pub short : shortage reply ≡ None
  pub is : moment_in address epoch None shared q asked q.place ≡ Some (last, Past (said, reply))
  pub session_stands : SessionStands address session said
  pub still : IsStillAt q said
  pub state_stands : StateStands address new last
  pub places : last.places ≡ shared.places
  pub later : Lists session.draft.chunks.base new.chunks
  pub grown : Lists old.chunks new.chunks
  pub moments : new.moments ≡ old.moments ++ record { session = q.number; statement = q.statement } ∷ []
  pub numbers : new.numbers ≡ old.numbers

-- the session goes on to its next statement, or rests before its decision
abbrev pub place_after : ℕ → Met → Position
place_after number (met.Answered reply) = place.Before (number + 1)
place_after number (met.Pending wanted) = place.Between number
