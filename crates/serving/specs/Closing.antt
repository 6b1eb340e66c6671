-- Calls that may have a decision of their own: how they go on, and what the decision leaves.
use Rattle.std.specs.Prelude.{◌≡◌, ℕ, ℤ, Bool, true, false, List, [], ◌∷◌, ◌++◌, None, Some, Result, Ok, Err}
use Rattle.chunk_store.specs.Chunks.{Chunks, Lists}
use Rattle.chunk_store.specs.declared.faults.PutFault.{PutFault}
use Rattle.expr_eval.specs.Binding.{Outcome}
use Rattle.schema_model.specs.PlainCommits.{Commits}
use Rattle.script_text.specs.Output.{shortage}
use Rattle.script_text.specs.declared.replies.Reply.{Reply}
use Rattle.plain_sessions.specs.Merging.{Closes, Ending, Worked}
use Rattle.plain_sessions.specs.Moments.{Change, changed_by, closed}
use Rattle.plain_sessions.specs.Records.{BranchState, Shared, state_of}
use Rattle.plain_sessions.specs.Replies.{refused}
use Rattle.plain_sessions.specs.Sessions as plain
use Rattle.plain_sessions.specs.declared.commands.Work.{Work}
use Rattle.plain_sessions.specs.declared.commands.Work.TheVariants as work
use Rattle.session_state.specs.Changes.{Parts, StateStands}
use Rattle.merge_procs.specs.Courses.{IsClosing, IsShort}
use Rattle.merge_procs.specs.Steps.{IsStep, is_made}
use Rattle.serving.specs.declared.courses.Course.{Course}
use Rattle.serving.specs.declared.courses.Course.TheVariants as course
use Rattle.serving.specs.declared.courses.Found.{Found}
use Rattle.serving.specs.declared.courses.Found.TheVariants as finding

-- DOLT_COMMIT
abbrev pub is_commit : Work → Bool
is_commit (work.Commit request) = true
is_commit other = false

-- what was found is what the call comes to, in these chunks: a DOLT_COMMIT commits what the session has, a DOLT_MERGE goes to where it was found to lead
abbrev pub IsFound : (List ℕ → List ℕ) → Chunks → Commits → Found → Work → Ending → Type 0
IsFound address chunks commits finding.Commit asked ending = is_commit asked ≡ true
IsFound address chunks commits (finding.Merge closing) asked ending = IsClosing address chunks commits closing ending × IsShort closing

-- it has its decision, on what was found; or is refused before it, by this number; or is a step that the session takes by itself, as a merge may be
abbrev pub IsCourse : (List ℕ → List ℕ) → Chunks → Commits → Course → Work → Outcome Worked → Type 0
IsCourse address chunks commits (course.Closes had) asked outcome = (ending : Ending) × (outcome ≡ Ok (Closes ending)) × IsFound address chunks commits had asked ending
IsCourse address chunks commits (course.Refused number) asked outcome = outcome ≡ Err number
IsCourse address chunks commits (course.Stays made) asked outcome = IsStep address chunks commits made outcome

-- what was merged for it is kept in the draft
abbrev pub leads_on : Result Course PutFault → Bool
leads_on (Ok (course.Closes had)) = true
leads_on (Ok (course.Refused number)) = false
leads_on (Ok (course.Stays made)) = is_made made
leads_on (Err fault) = false

-- what a closing call's decision leaves of the shared state, and what it answers
abbrev pub LeavesAs : (List ℕ → List ℕ) → Shared → plain.Session → Outcome Change → Shared → Reply → Type 0
LeavesAs address shared p (Ok change) last reply = (changed_by address shared p change ≡ Some last) × (reply ≡ change.reply)
LeavesAs address shared p (Err number) last reply = (last ≡ shared) × (reply ≡ refused number)

-- a closing call was decided on at one moment, with what that left
pub record ClosedAs (address : List ℕ → List ℕ) (epoch : ℤ) (p : plain.Session) (t : plain.Transaction) (call : Ending) (shared : Shared) (old new : Parts) (reply : Reply) : Type 0 where
  pub present : BranchState
  pub there : state_of shared.branches p.branch ≡ Some present
  pub outcome : Outcome Change
  pub is : closed address epoch shared.commits p t present call ≡ outcome
  pub last : Shared
  pub leaves : LeavesAs address shared p outcome last reply
  pub short : shortage reply ≡ None
  pub places : last.places ≡ shared.places
  pub state_stands : StateStands address new last
  pub chunks : Lists old.chunks new.chunks
  pub moments : new.moments ≡ old.moments ++ record { session = p.number; statement = p.statement } ∷ []
  pub numbers : new.numbers ≡ old.numbers
