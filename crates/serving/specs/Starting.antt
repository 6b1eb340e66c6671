-- A database statement behind its start: before its work, and between that and its answer.
use Rattle.std.specs.Prelude.{◌≡◌, ℕ, ℤ, true, List, None, Some, Ok}
use Rattle.chunk_store.specs.Chunks.{Lists}
use Rattle.script_text.specs.Collisions.{TellsTruly}
use Rattle.script_text.specs.Output.{shortage}
use Rattle.script_text.specs.declared.replies.Reply.{Reply}
use Rattle.script_text.specs.declared.replies.Reply.TheVariants.{Done}
use Rattle.plain_sessions.specs.Merging.{Answers}
use Rattle.plain_sessions.specs.Moments.{alone}
use Rattle.plain_sessions.specs.Records.{BranchState, Shared}
use Rattle.plain_sessions.specs.Sessions as plain
use Rattle.plain_sessions.specs.Sessions.{taken, with_own, within}
use Rattle.plain_sessions.specs.Statements.{worked}
use Rattle.plain_sessions.specs.declared.commands.Command.{Command}
use Rattle.plain_sessions.specs.declared.commands.Command.TheVariants.{Data}
use Rattle.plain_sessions.specs.declared.commands.Work.{Work}
use Rattle.session_state.specs.Changes.{Parts}
use Rattle.session_state.specs.Standing.{SessionStands}
use Rattle.session_state.specs.declared.sessions.Session.{Session}
use Rattle.session_plan.specs.Answering.{AnswersAlone}
use Rattle.session_plan.specs.Showing.{is_sound_reply}
use Rattle.shared_db.specs.Shared.{noted}
use Rattle.serving.specs.Branching.{Went}
use Rattle.serving.specs.Serving.{IsBefore, MeetsOnce}
use Rattle.serving.specs.declared.meeting.Begun.{Begun}
use Rattle.serving.specs.declared.meeting.Begun.TheVariants as begun

-- the session stood before its statement at these parts, outside a transaction; the start's moment is made, and it stands in this transaction
pub record HasStarted {D : Type 0} (address : List ℕ → List ℕ) (session : Session D) (parts now : Parts) (p : plain.Session) (t : plain.Transaction) (shared : Shared) : Type 0 where
  pub old : Session D
  pub before : IsBefore address old parts p shared
  pub none : p.transaction ≡ None
  pub taken_is : taken shared p ≡ Some t
  pub now_is : now ≡ noted p.number p.statement parts
  pub stands : SessionStands address session (within p t)
  pub later : Lists session.draft.chunks.base parts.chunks

-- the start of the statement was made between these parts, and left this session; its work is to be done
pub record IsStarted {D : Type 0} (address : List ℕ → List ℕ) (p : plain.Session) (asked : Command) (shared : Shared) (old new : Parts) (session : Session D) : Type 0 where
  pub work : Work
  pub asked_is : asked ≡ Data work
  pub waits : alone None p asked ≡ None
  pub transaction : plain.Transaction
  pub started : HasStarted address session old new p transaction shared

-- what the statement has come to when the shared database may be left
abbrev pub Begins : {D : Type 0} → (List ℕ → List ℕ) → ℤ → plain.Session → Command → Shared → Parts → Parts → Session D → Begun → Type 0
Begins address epoch p asked shared old new session (begun.Answered reply) = MeetsOnce address epoch p asked shared old new session reply
Begins address epoch p asked shared old new session begun.Started = IsStarted address p asked shared old new session

-- the same before the session goes on to its next statement
abbrev pub HasBegun : {D : Type 0} → (List ℕ → List ℕ) → ℤ → plain.Session → Command → Shared → Parts → Parts → Session D → Begun → Type 0
HasBegun address epoch p asked shared old new session (begun.Answered reply) = Went address epoch p asked shared old new session reply
HasBegun address epoch p asked shared old new session begun.Started = IsStarted address p asked shared old new session

abbrev pub IsSoundBegun : Begun → Type 0
IsSoundBegun (begun.Answered reply) = is_sound_reply reply ≡ true
IsSoundBegun begun.Started = Unit {0}

abbrev pub BegunTellsTruly : (List ℕ → List ℕ) → Begun → Type 0
BegunTellsTruly address (begun.Answered reply) = TellsTruly address reply
BegunTellsTruly address begun.Started = Unit {0}

-- in that transaction the session answered the work by itself
pub record HasAnswered {D : Type 0} (address : List ℕ → List ℕ) (session : Session D) (parts now : Parts) (p : plain.Session) (asked : Work) (shared : Shared) (reply : Reply) : Type 0 where
  pub old : Session D
  pub start : plain.Transaction
  pub started : HasStarted address old parts now p start shared
  pub base : session.draft.chunks.base ≡ old.draft.chunks.base
  pub alone : AnswersAlone address (within p start) (Data asked) session reply

-- in that transaction the statement's work came to this reply, which no refusal is
pub record HasWorked {D : Type 0} (address : List ℕ → List ℕ) (session : Session D) (parts now : Parts) (p : plain.Session) (asked : Work) (shared : Shared) (reply : Reply) : Type 0 where
  pub old : Session D
  pub before : IsBefore address old parts p shared
  pub none : p.transaction ≡ None
  pub start : plain.Transaction
  pub taken_is : taken shared p ≡ Some start
  pub now_is : now ≡ noted p.number p.statement parts
  pub own : BranchState
  pub is : worked p start asked ≡ Ok (Answers reply own)
  pub short : shortage reply ≡ None
  pub stands : SessionStands address session (within p (with_own own start))
  pub later : Lists session.draft.chunks.base parts.chunks

-- the statement's own reply in place of the decision's, where that is well
abbrev pub with_reply : Reply → Reply → Reply
with_reply reply Done = reply
with_reply reply other = other
