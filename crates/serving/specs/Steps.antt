-- Steps of a statement: the decision on an open transaction, and replies to faults.
use Rattle.std.specs.Prelude.{◌≡◌, ℕ, ◌==◌, Bool, true, List, [], ◌∷◌, ◌++◌, Option, None, Some, Ok, Err, if◌then◌else◌}
use Rattle.chunk_store.specs.Chunks.{Lists}
use Rattle.chunk_store.specs.declared.faults.PutFault.{PutFault}
use Rattle.chunk_store.specs.declared.faults.PutFault.TheVariants.{Memory, Collision}
use Rattle.expr_eval.specs.Binding.{Outcome}
use Rattle.script_text.specs.Output.{shortage}
use Rattle.script_text.specs.declared.replies.Reply.{Reply}
use Rattle.script_text.specs.declared.replies.Reply.TheVariants.{Collided, Done, Refused}
use Rattle.plain_sessions.specs.CommitRule.{decide}
use Rattle.plain_sessions.specs.Records.{BranchState, Shared, state_of, with_branch}
use Rattle.plain_sessions.specs.Replies.{done, is_refusal, refused}
use Rattle.plain_sessions.specs.Sessions as plain
use Rattle.session_state.specs.Changes.{Parts, StateStands}
use Rattle.session_state.specs.declared.sessions.Position.{Position}
use Rattle.session_state.specs.declared.sessions.Position.TheVariants as place
use Rattle.session_state.specs.declared.sessions.Session.{Session}

-- the number of the statement before or in which a session is
abbrev pub number_at : Position → ℕ
number_at (place.Before number) = number
number_at (place.Between number) = number

-- the same session at the same statement, on the same branch
pub record IsStillAt (old new : plain.Session) : Type 0 where
  pub number : new.number ≡ old.number
  pub branch : new.branch ≡ old.branch

-- what the rule's verdict leaves of the shared state, and what a COMMIT then answers
abbrev pub ComesTo : Shared → List ℕ → Outcome BranchState → Shared → Reply → Type 0
ComesTo shared branch (Ok state) last reply = (last ≡ record shared { branches = with_branch branch state shared.branches }) × (reply ≡ done)
ComesTo shared branch (Err number) last reply = (last ≡ shared) × (reply ≡ refused number) × (shortage (refused number) ≡ None)

-- the commit rule was applied to the transaction at one moment, with what it left
pub record Decided (address : List ℕ → List ℕ) (p : plain.Session) (t : plain.Transaction) (shared : Shared) (old new : Parts) (reply : Reply) : Type 0 where
  pub present : BranchState
  pub there : state_of shared.branches p.branch ≡ Some present
  pub verdict : Outcome BranchState
  pub is : decide t.start present t.own p.variables ≡ verdict
  pub last : Shared
  pub comes : ComesTo shared p.branch verdict last reply
  pub state_stands : StateStands address new last
  pub chunks : Lists old.chunks new.chunks
  pub moments : new.moments ≡ old.moments ++ record { session = p.number; statement = p.statement } ∷ []
  pub numbers : new.numbers ≡ old.numbers

-- a want of memory that came after the start is told so
abbrev pub after_start : Reply → Reply
after_start (Refused number) = if number == 1 then Refused 2 else Refused number
after_start reply = reply

-- what a fault is answered
abbrev pub fault_reply : PutFault → Reply
fault_reply Memory = Refused 1
fault_reply (Collision clash) = Collided clash

-- autocommit is set where the decision was well
abbrev pub switched_by : {D : Type 0} → Bool → Reply → Session D → Session D
switched_by on Done session = record session { autocommit = on }
switched_by on other session = session

-- it was refused, or hasn't been answered
abbrev pub is_undone : Option Reply → Bool
is_undone None = true
is_undone (Some reply) = is_refusal reply
