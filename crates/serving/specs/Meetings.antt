-- A session at its meeting with what all sessions share, and what came of it: no moment, or one.
use Rattle.std.specs.Prelude.{◌≡◌, ◌≢◌, ℕ, ◌+◌, ◌-◌, ◌≤◌, ◌^◌, ◌||◌, ℤ, true, false, min, List, [], ◌∷◌, ◌++◌, Some}
use Rattle.std.specs.Option.{option_map}
use Rattle.chunk_store.specs.Chunks.{Lists}
use Rattle.chunk_store.specs.Drafts.{chunks_of}
use Rattle.script_text.specs.Output.{shortage}
use Rattle.script_text.specs.declared.replies.Reply.{Reply}
use Rattle.plain_sessions.specs.Records.{Shared}
use Rattle.plain_sessions.specs.Sessions as plain
use Rattle.plain_sessions.specs.Sessions.{Transaction}
use Rattle.plain_sessions.specs.declared.commands.Command.{Command}
use Rattle.plain_sessions.specs.declared.commands.Command.TheVariants.{Data}
use Rattle.plain_sessions.specs.declared.commands.Work.{Work}
use Rattle.run_laws.specs.Turns.{ServedIn, Turn}
use Rattle.session_state.specs.Changes.{Parts, StateStands}
use Rattle.session_state.specs.Standing.{SessionStands}
use Rattle.session_state.specs.declared.sessions.Session.{Session}
use Rattle.shared_history.specs.Fitting.{HasCome, HasTurned}
use Rattle.shared_history.specs.Meeting.{Found, IsOn, Tells, moments_by, turn_of}
use Rattle.serving.specs.Serving.{Awaits}
use Rattle.serving.specs.declared.meeting.Pending.{Pending}

-- the meeting is this session's, on its branch; the store below its draft has nothing that wasn't seen; nothing is held
pub record IsSeated {D : Type 0} (session : Session D) (m : Tells) : Type 0 where
  pub number : m.session ≡ session.number
  pub branch : IsOn session.branch m
  pub known : Lists session.draft.chunks.base m.seen.chunks
  pub free : m.held ≡ false

-- and the session stands for the plain one, in the statement that the meeting was told
pub record IsAtMeeting {D : Type 0} (address : List ℕ → List ℕ) (session : Session D) (m : Tells) (p : plain.Session) : Type 0 where
  pub stands : SessionStands address session p
  pub seated : IsSeated session m
  pub statement : m.statement ≡ p.statement

-- ---- what came of it

-- no moment of this session: only others acted, from what was seen to what was seen last
pub record IsWaiting (old new : Tells) : Type 0 where
  pub session : new.session ≡ old.session
  pub statement : new.statement ≡ old.statement
  pub lone : new.lone ≡ old.lone
  pub made : new.made ≡ old.made
  pub come : HasCome old.session old.seen new.seen
  pub own : moments_by old.session new.seen.moments ≡ moments_by old.session old.seen.moments
  pub still : (old.held || old.lone) ≡ true → new.seen ≡ old.seen

-- and nothing is held
pub record WaitsFree (old new : Tells) : Type 0 where
  pub waits : IsWaiting old new
  pub free : new.held ≡ false

-- a moment of this session, from these parts to those; nothing is held behind it
pub record HasTurnedTo (found left : Parts) (old new : Tells) : Type 0 where
  pub session : new.session ≡ old.session
  pub statement : new.statement ≡ old.statement
  pub lone : new.lone ≡ old.lone
  pub seen : new.seen ≡ left
  pub free : new.held ≡ false
  pub made : new.made ≡ option_map (λ told. told ++ turn_of old.statement found left ∷ []) old.made

-- one moment of this session was made, and left this of what was found, whatever state stands in that
pub record InOneMoment (address : List ℕ → List ℕ) (Leaves : Parts → Shared → Parts → Type 0) (old new : Tells) : Type 0 where
  pub found : Parts
  pub is : Found address old found
  pub left : Parts
  pub leaves : (shared : Shared) → StateStands address found shared → Leaves found shared left
  pub turned : HasTurnedTo found left old new

-- ---- counts

abbrev pub losses_in : ℕ → ℕ → ℕ
losses_in n lost = min (lost + n) (2 ^ 64 - 1)

-- the value was held only where three settles were lost before
pub record HoldsAfterThree (old new : Tells) : Type 0 where
  pub held : new.holds ≢ old.holds → losses_in 3 old.lost ≤ new.lost
  pub lost : old.lost ≤ new.lost

-- ---- before a statement, and before its decision

pub record IsBeforeAt {D : Type 0} (address : List ℕ → List ℕ) (session : Session D) (m : Tells) (p : plain.Session) : Type 0 where
  pub at : IsAtMeeting address session m p
  pub before : p.place ≡ plain.Before

-- between the start of a statement and its decision
pub record IsBetweenAt {D : Type 0} (address : List ℕ → List ℕ) (session : Session D) (m : Tells) (q : plain.Session) (asked : Command) (wanted : Pending) : Type 0 where
  pub at : IsAtMeeting address session m q
  pub work : Work
  pub asked_is : asked ≡ Data work
  pub transaction : Transaction
  pub has : q.transaction ≡ Some transaction
  pub awaits : Awaits address (chunks_of session.draft.chunks) wanted q transaction work

-- ---- a statement whole

-- turns of this session, with others' between: each from a state that was found to the one that it left
abbrev pub TurnsGo : (List ℕ → List ℕ) → Tells → List Turn → Tells → Type 0
TurnsGo address old [] new = WaitsFree old new
TurnsGo address old (turn ∷ turns) new =
    (found : Parts) × (left : Parts) × (between : Tells) × Found address old found × StateStands address found turn.found × StateStands address left turn.left × HasTurned old.session old.statement found left
    × HasTurnedTo found left old between × TurnsGo address between turns new

-- the plain session after it, and the turns that it took
pub record ServesAt {D : Type 0} (address : List ℕ → List ℕ) (epoch : ℤ) (p : plain.Session) (asked : Command) (old new : Tells) (session : Session D) (reply : Reply) : Type 0 where
  pub after : plain.Session
  pub turns : List Turn
  pub is : ServedIn address epoch (shortage reply) p asked turns (after, reply)
  pub goes : TurnsGo address old turns new
  pub stands : SessionStands address session after
  pub before : after.place ≡ plain.Before
  pub number : after.number ≡ p.number
  pub seated : IsSeated session new
