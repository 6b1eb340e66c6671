-- A decision over a meeting: what it is on, and how its tries end.
use Rattle.std.specs.Prelude.{◌≡◌, ◌≢◌, ◌⊎◌, ℕ, ℤ, ◌≤◌, Bool, true, false, List, Option, None, Some, Result, Ok, Err}
use Rattle.std.specs.declared.alloc.AllocError.{AllocError}
use Rattle.std.specs.Arc.{arc_value}
use Rattle.std.specs.Option.{option_map}
use Rattle.chunk_store.specs.Chunks.{Lists}
use Rattle.chunk_store.specs.Drafts.{chunks_of}
use Rattle.chunk_store.specs.Stores.{all_chunks}
use Rattle.chunk_store.specs.declared.faults.PutFault.{PutFault}
use Rattle.chunk_store.specs.declared.faults.PutFault.TheVariants as fault
use Rattle.script_text.specs.Collisions.{IsFault}
use Rattle.script_text.specs.Output.{shortage}
use Rattle.tuple_codec.specs.declared.records.BranchRecord.{BranchRecord}
use Rattle.script_text.specs.declared.replies.Reply.{Reply}
use Rattle.script_text.specs.declared.replies.Reply.TheVariants.{Done}
use Rattle.table_root.specs.declared.heads.Look.{Look}
use Rattle.sql_procedures.specs.Arguments.{is_message}
use Rattle.plain_sessions.specs.Fitness.{is_fit_merge}
use Rattle.plain_sessions.specs.Merging.{Closes, Committing, Ending}
use Rattle.plain_sessions.specs.Records.{BranchState, Shared}
use Rattle.plain_sessions.specs.Sessions as plain
use Rattle.plain_sessions.specs.Sessions.{Transaction, taken, within}
use Rattle.plain_sessions.specs.Statements.{worked}
use Rattle.plain_sessions.specs.declared.commands.Work.TheVariants as work
use Rattle.session_state.specs.Changes.{Parts, StateStands}
use Rattle.session_state.specs.Standing.{SessionStands}
use Rattle.session_state.specs.declared.sessions.Session.{Session}
use Rattle.merge_procs.specs.Courses.{IsClosing, IsShort}
use Rattle.shared_db.specs.Settling.{StateGoesOn, sealed_in}
use Rattle.shared_db.specs.Shared.{IsSettled, record_at}
use Rattle.shared_db.specs.declared.changes.DecisionPlan.{DecisionPlan}
use Rattle.shared_db.specs.declared.changes.RecordChange.{RecordChange}
use Rattle.shared_db.specs.declared.changes.RecordChange.TheVariants as change
use Rattle.shared_db.specs.declared.changes.Settled.{Settled}
use Rattle.shared_db.specs.declared.changes.Settled.TheVariants as settled
use Rattle.shared_history.specs.Meeting.{Found, IsDone, IsLookAhead, MaySettle, ShowsNext, Tells, risen}
use Rattle.serving.specs.Closing.{ClosedAs}
use Rattle.serving.specs.Meetings.{HasTurnedTo, InOneMoment, IsWaiting, WaitsFree, losses_in}
use Rattle.serving.specs.Planning.{Deciding, IsPlanned, by_closing, by_rule}
use Rattle.serving.specs.Steps.{Decided, fault_reply}
use Rattle.serving.specs.declared.deciding.Decision.{Decision}
use Rattle.serving.specs.declared.deciding.Decision.TheVariants as decision
use Rattle.serving.specs.declared.trying.Made.{Made}
use Rattle.serving.specs.declared.trying.Planned.{Planned}
use Rattle.serving.specs.declared.trying.Tried.{Tried}
use Rattle.serving.specs.declared.trying.Tried.TheVariants as tried

-- ---- what it is on

-- the closing call's ending, where it is one; else it is the commit rule's
abbrev pub IsOf : {D : Type 0} → (List ℕ → List ℕ) → Session D → Decision → plain.Session → Transaction → Option Ending → Type 0
IsOf address session decision.Commit p t ending = ending ≡ None
IsOf address session decision.Begin p t ending = ending ≡ None
IsOf address session (decision.DoltCommit request) p t ending =
    (is_message request.now.message ≡ true)
    × ((own : BranchState) × (ending ≡ Some (Committing own request.now.message)) × (worked p t (work.Commit request.now) ≡ Ok (Closes (Committing own request.now.message))))
IsOf address session (decision.Merge request) p t ending =
    (is_fit_merge request.now ≡ true) × ((found : Ending) × (ending ≡ Some found) × (worked p t (work.Merge request.now) ≡ Ok (Closes found)))
IsOf address session (decision.Close closing) p t ending =
    IsShort closing.now × ((found : Ending) × (ending ≡ Some found) × IsClosing address (chunks_of session.draft.chunks) t.commits closing.now found)

-- the session stands for this one, in this transaction, and this is decided on
pub record Asks {D : Type 0} (address : List ℕ → List ℕ) (session : Session D) (decision : Decision) (p : plain.Session) (t : Transaction) (ending : Option Ending) : Type 0 where
  pub stands : SessionStands address session p
  pub has : p.transaction ≡ Some t
  pub of : IsOf address session decision p t ending

abbrev pub deciding_of : (List ℕ → List ℕ) → ℤ → plain.Session → Transaction → Option Ending → Deciding
deciding_of address epoch p t None = by_rule p t
deciding_of address epoch p t (Some ending) = by_closing address epoch p t ending

-- what it left, and what it tells
abbrev pub DecidedAs : (List ℕ → List ℕ) → ℤ → plain.Session → Transaction → Option Ending → Parts → Shared → Parts → Reply → Type 0
DecidedAs address epoch p t None found shared left reply = Decided address p t shared found left reply
DecidedAs address epoch p t (Some ending) found shared left reply = ClosedAs address epoch p t ending shared found left reply

-- ---- a try

-- nothing of the counts nor the hold is another
pub record IsIdle (old new : Tells) : Type 0 where
  pub waits : IsWaiting old new
  pub held : new.held ≡ old.held
  pub lost : new.lost ≡ old.lost
  pub holds : new.holds ≡ old.holds

-- a settle was lost; what is held stays so
pub record IsOneLost (old new : Tells) : Type 0 where
  pub waits : IsWaiting old new
  pub held : new.held ≡ old.held
  pub holds : new.holds ≡ old.holds
  pub lost : new.lost ≡ risen old.lost

-- a settle ended the hold, and made no moment
pub record IsRefused (old new : Tells) : Type 0 where
  pub waits : IsWaiting old new
  pub held : new.held ≡ false
  pub holds : new.holds ≡ old.holds
  pub lost : new.lost ≡ old.lost

-- there was a look at what is seen now, and a plan on it
pub record HasPlanned (address : List ℕ → List ℕ) (Plans : Look → DecisionPlan → Type 0) (name : List ℕ) (planned : Planned) (old new : Tells) : Type 0 where
  pub idle : IsIdle old new
  pub branch : planned.look.branch ≡ name
  pub there : record_at name new.seen.branches ≡ Some planned.look.rec
  pub chunks : all_chunks planned.look.store ≡ new.seen.chunks
  pub looked : new.looked ≡ Some planned.look.rec
  pub stands : MaySettle address planned.look planned.plan.change (option_map arc_value planned.plan.sealed)
  pub plans : Plans planned.look planned.plan

-- whatever was asked, the plan is of that decision
abbrev pub PlansDecision : {D : Type 0} → (List ℕ → List ℕ) → ℤ → Session D → Decision → Look → DecisionPlan → Type 0
PlansDecision address epoch session decision look plan =
    (p : plain.Session) (t : Transaction) (ending : Option Ending) → Asks address session decision p t ending → IsPlanned address session look plan p t (deciding_of address epoch p t ending)

-- the next transaction starts where the change is made
abbrev pub starts_next : Decision → RecordChange → Bool
starts_next decision.Begin (change.Record rec) = true
starts_next decision.Begin change.Nothing = false
starts_next other made = false

abbrev pub tried_settled : Settled → Option Look → Reply → Tried
tried_settled settled.Done next reply = tried.Made (record { reply = reply; next = next })
tried_settled (settled.Moved rec) next reply = tried.Lost
tried_settled (settled.Collision clash) next reply = tried.Refused (fault.Collision clash)
tried_settled settled.Memory next reply = tried.Refused fault.Memory

abbrev pub tried_by : Result (Settled × Option Look) AllocError → Reply → Tried
tried_by (Ok both) reply = tried_settled both.0 both.1 reply
tried_by (Err e) reply = tried.Faulty fault.Memory

-- the plan was settled
pub record IsSettledBy (address : List ℕ → List ℕ) (planned : Planned) (Next : RecordChange → Bool) (made : Made) (old new : Tells) : Type 0 where
  pub reply : made.reply ≡ planned.plan.reply
  pub done : IsDone address planned.look planned.plan.change (option_map arc_value planned.plan.sealed) (Next planned.plan.change) made.next old new

abbrev pub SettlesPlan : (List ℕ → List ℕ) → Planned → (RecordChange → Bool) → Tells → Tells → Tried → Type 0
SettlesPlan address planned Next old new (tried.Made made) = IsSettledBy address planned Next made old new
SettlesPlan address planned Next old new tried.Lost = IsOneLost old new
SettlesPlan address planned Next old new (tried.Faulty fault) = IsIdle old new
SettlesPlan address planned Next old new (tried.Refused fault) = IsRefused old new

abbrev pub IsNotLost : Tried → Type 0
IsNotLost (tried.Made made) = Unit {0}
IsNotLost tried.Lost = ⊥
IsNotLost (tried.Faulty fault) = Unit {0}
IsNotLost (tried.Refused fault) = Unit {0}

abbrev pub IfFaulty : Tried → (PutFault → Type 0) → Type 0
IfFaulty (tried.Made made) P = Unit {0}
IfFaulty tried.Lost P = Unit {0}
IfFaulty (tried.Faulty fault) P = P fault
IfFaulty (tried.Refused fault) P = P fault

-- one decision was made, as it was planned on the record that was looked at last
pub record HasDecided (address : List ℕ → List ℕ) (Plans : Look → DecisionPlan → Type 0) (name : List ℕ) (Next : RecordChange → Bool) (made : Made) (old new : Tells) : Type 0 where
  pub found : Parts
  pub is : Found address old found
  pub left : Parts
  pub planned : Planned
  pub plans : Plans planned.look planned.plan
  pub looked : new.looked ≡ Some planned.look.rec
  pub branch : planned.look.branch ≡ name
  pub listed : Lists (all_chunks planned.look.store) found.chunks
  pub there : record_at name found.branches ≡ Some planned.look.rec
  pub settled : IsSettled old.session old.statement name planned.plan.change (option_map arc_value planned.plan.sealed) found left
  pub stands : StateGoesOn planned.look planned.plan.change (sealed_in (option_map arc_value planned.plan.sealed)) found left
  pub shows : ShowsNext (Next planned.plan.change) name left made.next
  pub reply : made.reply ≡ planned.plan.reply
  pub turned : HasTurnedTo found left old new

pub record DecidesFree (address : List ℕ → List ℕ) (Plans : Look → DecisionPlan → Type 0) (name : List ℕ) (Next : RecordChange → Bool) (made : Made) (old new : Tells) : Type 0 where
  pub decided : HasDecided address Plans name Next made old new
  pub holds : new.holds ≡ old.holds
  pub lost : old.lost ≤ new.lost

abbrev pub AttemptIs : (List ℕ → List ℕ) → (Look → DecisionPlan → Type 0) → List ℕ → (RecordChange → Bool) → Tells → Tells → Tried → Type 0
AttemptIs address Plans name Next old new (tried.Made made) = DecidesFree address Plans name Next made old new
AttemptIs address Plans name Next old new tried.Lost = IsOneLost old new
AttemptIs address Plans name Next old new (tried.Faulty fault) = IsIdle old new
AttemptIs address Plans name Next old new (tried.Refused fault) = IsRefused old new

-- so many tries were lost
pub record HasLost (n : ℕ) (old new : Tells) : Type 0 where
  pub waits : IsWaiting old new
  pub held : new.held ≡ old.held
  pub holds : new.holds ≡ old.holds
  pub lost : losses_in n old.lost ≤ new.lost
  pub more : old.lost ≤ new.lost

abbrev pub TriesFree : (List ℕ → List ℕ) → (Look → DecisionPlan → Type 0) → List ℕ → (RecordChange → Bool) → Tells → Tells → Option Made → Type 0
TriesFree address Plans name Next old new (Some made) = DecidesFree address Plans name Next made old new
TriesFree address Plans name Next old new None = HasLost 3 old new

-- nothing was decided, and nothing is held
pub record IsUndecided (old new : Tells) : Type 0 where
  pub free : WaitsFree old new
  pub lost : old.lost ≤ new.lost

-- ---- what it comes to

-- BEGIN is told what its decision left, where that is well, and nothing else is
abbrev pub ShowsAfter : (List ℕ → List ℕ) → Decision → List ℕ → Parts → Made → Type 0
ShowsAfter address decision.Begin name left made =
    (made.reply ≡ Done → (look : Look) × (made.next ≡ Some look) × IsLookAhead left name look) × (made.reply ≢ Done → made.next ≡ None)
ShowsAfter address other name left made = made.next ≡ None

-- the next transaction was begun on what is left
pub record HasBegunOn {D : Type 0} (address : List ℕ → List ℕ) (p : plain.Session) (left : Parts) (session : Session D) : Type 0 where
  pub begun : (last : Shared) → StateStands address left last → (t : Transaction) × (taken last p ≡ Some t) × SessionStands address session (within p t)
  pub later : Lists session.draft.chunks.base left.chunks

abbrev pub EndsTo : {D : Type 0} → (List ℕ → List ℕ) → Decision → plain.Session → Session D → Parts → Session D → Reply → Type 0
EndsTo address decision.Begin p old left session reply = (reply ≡ Done → HasBegunOn address p left session) × (reply ≢ Done → session ≡ record old { start = None })
EndsTo address other p old left session reply = session ≡ record old { start = None }

-- the decision was made, and the session's transaction is over, or the next one begun
pub record HasEndedBy {D : Type 0} (address : List ℕ → List ℕ) (epoch : ℤ) (decision : Decision) (p : plain.Session) (t : Transaction) (ending : Option Ending) (old : Session D) (found : Parts) (shared : Shared) (left : Parts) (session : Session D) (reply : Reply) : Type 0 where
  pub decided : DecidedAs address epoch p t ending found shared left reply
  pub ends : EndsTo address decision p old left session reply

-- one moment of the session, on the record of this branch that was looked at last
pub record MomentOn (address : List ℕ → List ℕ) (Leaves : Parts → Shared → Parts → Type 0) (name : List ℕ) (old new : Tells) : Type 0 where
  pub moment : InOneMoment address Leaves old new
  pub looked : new.looked ≡ record_at name moment.found.branches

-- what a decision is answered: by its one moment, on the record that was looked at last; or memory was wanting or an address failed, and there was none
pub record DecidesOnce {D : Type 0} (address : List ℕ → List ℕ) (epoch : ℤ) (decision : Decision) (p : plain.Session) (t : Transaction) (ending : Option Ending) (old : Session D) (before after : Tells) (session : Session D) (reply : Reply) : Type 0 where
  pub short : shortage reply ≡ None
  pub once : MomentOn address (λ found shared left. HasEndedBy address epoch decision p t ending old found shared left session reply) old.branch before after

pub record DecidesNone {D : Type 0} (address : List ℕ → List ℕ) (old : Session D) (before after : Tells) (session : Session D) (reply : Reply) : Type 0 where
  pub fault : PutFault
  pub is : IsFault address fault
  pub told : reply ≡ fault_reply fault
  pub waits : WaitsFree before after
  pub kept : session ≡ old

abbrev pub EndsAs : {D : Type 0} → (List ℕ → List ℕ) → ℤ → Decision → plain.Session → Transaction → Option Ending → Session D → Tells → Tells → Session D → Reply → Type 0
EndsAs address epoch decision p t ending old before after session reply =
    DecidesOnce address epoch decision p t ending old before after session reply ⊎ DecidesNone address old before after session reply
