-- One statement served on the shared database: alone, at its first moment, and at its decision; and whole, where no other session acts between its moments.
use Rattle.std.specs.Prelude.{◌≡◌, ◌≢◌, ℕ, ℤ, true, List, [], ◌∷◌, ◌++◌, None, Ok, Some, slice_get}
use Rattle.chunk_store.specs.Chunks.{Chunks, Lists}
use Rattle.chunk_store.specs.Drafts.{chunks_of}
use Rattle.chunk_store.specs.declared.faults.PutFault.{PutFault}
use Rattle.script_text.specs.Collisions.{TellsTruly}
use Rattle.script_text.specs.Output.{Shortage, AtOnce, shortage}
use Rattle.script_text.specs.declared.replies.Reply.{Reply}
use Rattle.plain_sessions.specs.Merging.{Closes, Ending}
use Rattle.plain_sessions.specs.Moments.{Past, Still, alone, alone_by, moment_at}
use Rattle.plain_sessions.specs.Records.{Shared}
use Rattle.plain_sessions.specs.Runs.{awaiting}
use Rattle.plain_sessions.specs.Sessions as plain
use Rattle.plain_sessions.specs.Sessions.{Transaction, is_changed_since}
use Rattle.plain_sessions.specs.Statements.{worked}
use Rattle.plain_sessions.specs.declared.commands.Command.{Command}
use Rattle.plain_sessions.specs.declared.commands.Command.TheVariants.{Data}
use Rattle.plain_sessions.specs.declared.commands.Work.{Work}
use Rattle.run_laws.specs.Replaying.{dropped, reply_of}
use Rattle.run_laws.specs.Turns.{InOneTurn, Turn}
use Rattle.session_state.specs.Changes.{Parts, StateStands}
use Rattle.session_state.specs.Standing.{SessionStands}
use Rattle.session_state.specs.declared.sessions.Session.{Session}
pub use Rattle.session_plan.specs.Showing.{is_sound_reply}
use Rattle.shared_db.specs.Shared.{noted}
use Rattle.serving.specs.Closing.{IsFound}
use Rattle.serving.specs.Kinds.{may_close}
use Rattle.serving.specs.Steps.{fault_reply}
use Rattle.serving.specs.declared.meeting.Met.{Met}
use Rattle.serving.specs.declared.meeting.Met.TheVariants as met
use Rattle.serving.specs.declared.meeting.Pending.{Pending}
use Rattle.serving.specs.declared.meeting.Pending.TheVariants as pending

-- the session stands before a statement, on the branch on which the shared state has it
pub record IsBefore {D : Type 0} (address : List ℕ → List ℕ) (session : Session D) (parts : Parts) (p : plain.Session) (shared : Shared) : Type 0 where
  pub session_stands : SessionStands address session p
  pub before : p.place ≡ plain.Before
  pub state_stands : StateStands address parts shared
  pub placed : slice_get shared.places p.number ≡ Some p.branch
  -- the store below its draft has nothing that the shared one hasn't
  pub later : Lists session.draft.chunks.base parts.chunks

-- the session stands in these parts, wherever in its statements it is
pub record IsHere {D : Type 0} (address : List ℕ → List ℕ) (session : Session D) (parts : Parts) (p : plain.Session) (shared : Shared) : Type 0 where
  pub session_stands : SessionStands address session p
  pub state_stands : StateStands address parts shared
  pub placed : slice_get shared.places p.number ≡ Some p.branch
  pub later : Lists session.draft.chunks.base parts.chunks

-- what the decision will be: that on what the transaction changed, with this reply where it is well; or that of a closing call, where what was found for it is
-- what it comes to in these chunks
abbrev pub Awaits : (List ℕ → List ℕ) → Chunks → Pending → plain.Session → Transaction → Work → Type 0
Awaits address chunks (pending.Between reply) q t asked =
    (q.place ≡ plain.Between reply) × (is_changed_since t ≡ true) × (shortage reply ≡ None) × (is_sound_reply reply ≡ true)
Awaits address chunks (pending.Closing found) q t asked =
    (q.place ≡ plain.Closing) × (may_close asked ≡ true) × ((ending : Ending) × (worked q t asked ≡ Ok (Closes ending)) × IsFound address chunks t.commits found asked ending)

-- the session stands between the start of a statement and its decision
pub record IsBetween {D : Type 0} (address : List ℕ → List ℕ) (session : Session D) (parts : Parts) (q : plain.Session) (asked : Command) (wanted : Pending) (shared : Shared) : Type 0 where
  pub here : IsHere address session parts q shared
  pub work : Work
  pub asked_is : asked ≡ Data work
  pub transaction : Transaction
  pub has : q.transaction ≡ Some transaction
  pub awaits : Awaits address (chunks_of session.draft.chunks) wanted q transaction work

-- what a moment of this session leaves of the parts, beside the session's own branch
pub record Passes (session statement : ℕ) (shared left : Shared) (old new : Parts) : Type 0 where
  pub moments : new.moments ≡ old.moments ++ record { session = session; statement = statement } ∷ []
  pub numbers : new.numbers ≡ old.numbers
  -- the other sessions stay on their branches
  pub others : (place : ℕ) → place ≢ session → slice_get left.places place ≡ slice_get shared.places place
  -- and all chunks that were there are there
  pub grown : Lists old.chunks new.chunks

abbrev pub turn_at : plain.Session → Shared → Shared → Turn
turn_at p found left = record { statement = p.statement; found = found; left = left }

-- the statement was answered without a moment
pub record PassesAlone {D : Type 0} (address : List ℕ → List ℕ) (p : plain.Session) (asked : Command) (session : Session D) (reply : Reply) : Type 0 where
  pub after : plain.Session
  pub is : alone (shortage reply) p asked ≡ Some (after, reply)
  pub stands : SessionStands address session after
  pub before : after.place ≡ plain.Before
  pub number : after.number ≡ p.number
  pub branch : after.branch ≡ p.branch

-- memory was wanting for it before its first moment, or an address failed
abbrev pub Fails : plain.Session → Command → PutFault → Type 0
Fails p asked fault = alone_by (shortage (fault_reply fault)) p asked ≡ Some (p, fault_reply fault)

-- it was answered at its one moment
pub record MeetsOnce {D : Type 0} (address : List ℕ → List ℕ) (epoch : ℤ) (p : plain.Session) (asked : Command) (shared : Shared) (old new : Parts) (session : Session D) (reply : Reply) : Type 0 where
  pub after : plain.Session
  pub left : Shared
  pub is : InOneTurn address epoch (shortage reply) p asked (turn_at p shared left) (after, reply)
  pub next : IsBefore address session new after left
  pub number : after.number ≡ p.number
  pub passes : Passes p.number p.statement shared left old new

-- it took its start, and its decision is to come
pub record Starts {D : Type 0} (address : List ℕ → List ℕ) (epoch : ℤ) (p : plain.Session) (asked : Command) (shared : Shared) (old new : Parts) (session : Session D) (wanted : Pending) : Type 0 where
  pub transaction : Transaction
  pub place : plain.Place
  pub outside : p.transaction ≡ None
  pub started : moment_at address epoch None shared p asked ≡ Some (shared, Still transaction place)
  pub next : IsBetween address session new (awaiting p transaction place) asked wanted shared
  pub new_is : new ≡ noted p.number p.statement old

abbrev pub Meets : {D : Type 0} → (List ℕ → List ℕ) → ℤ → plain.Session → Command → Shared → Parts → Parts → Session D → Met → Type 0
Meets address epoch p asked shared old new session (met.Answered reply) = MeetsOnce address epoch p asked shared old new session reply
Meets address epoch p asked shared old new session (met.Pending wanted) = Starts address epoch p asked shared old new session wanted

abbrev pub IsSoundMet : Met → Type 0
IsSoundMet (met.Answered reply) = is_sound_reply reply ≡ true
IsSoundMet (met.Pending wanted) = Unit {0}

abbrev pub MetTellsTruly : (List ℕ → List ℕ) → Met → Type 0
MetTellsTruly address (met.Answered reply) = TellsTruly address reply
MetTellsTruly address (met.Pending wanted) = Unit {0}

-- its decision was made
pub record Concludes {D : Type 0} (address : List ℕ → List ℕ) (epoch : ℤ) (q : plain.Session) (asked : Command) (shared : Shared) (old new : Parts) (session : Session D) (reply : Reply) : Type 0 where
  pub after : plain.Session
  pub left : Shared
  pub short : shortage reply ≡ None
  pub is : moment_at address epoch None shared q asked ≡ Some (left, Past (after, reply))
  pub next : IsBefore address session new after left
  pub number : after.number ≡ q.number
  pub passes : Passes q.number q.statement shared left old new

-- it was dropped in place of its decision: memory was wanting, or an address failed
pub record Drops {D : Type 0} (address : List ℕ → List ℕ) (q : plain.Session) (session : Session D) (reply : Reply) : Type 0 where
  pub short : Shortage
  pub later : short ≢ AtOnce
  pub is : reply ≡ reply_of short
  pub stands : SessionStands address session (dropped q)
