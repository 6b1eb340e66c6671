-- Where a DOLT_MERGE leads, and what its decision is on.
use Rattle.std.specs.Prelude.{◌≡◌, ◌≤◌, ℕ, Bool, true, false, List, length, Result, Ok, Err}
use Rattle.chunk_store.specs.Chunks.{Chunks}
use Rattle.chunk_store.specs.Clashes.{IsReason}
use Rattle.chunk_store.specs.Drafts.{Drafting, Grows, chunks_of}
use Rattle.chunk_store.specs.Kinds.{is_data}
use Rattle.chunk_store.specs.declared.faults.PutFault.{PutFault}
use Rattle.table_root.specs.Kept.{IsKeptAt}
use Rattle.expr_eval.specs.Binding.{Outcome}
use Rattle.schema_model.specs.PlainCommits.{Commits, is_known}
use Rattle.schema_model.specs.PlainTables.{PlainDatabase}
use Rattle.plain_sessions.specs.Merging.{Worked, Closes, Ending, Forwarding, Joining}
use Rattle.merge_procs.specs.Steps.{IsStep}
use Rattle.merge_procs.specs.declared.courses.Closing.{Closing}
use Rattle.merge_procs.specs.declared.courses.Closing.TheVariants as closing
use Rattle.merge_procs.specs.declared.courses.Joined.{Joined}
use Rattle.merge_procs.specs.declared.courses.MergeCourse.{MergeCourse}
use Rattle.merge_procs.specs.declared.courses.MergeCourse.TheVariants as course
use Rattle.merge_procs.specs.declared.steps.Step.TheVariants as step

-- a clean merge: the merged database stands at the root that was found, and the other commit is known
pub record IsJoin (address : List ℕ → List ℕ) (chunks : Chunks) (commits : Commits) (joined : Joined) (ending : Ending) : Type 0 where
  pub database : PlainDatabase
  pub is : ending ≡ Joining database joined.other.0 joined.message
  pub kept : IsKeptAt address chunks joined.root.0 database
  pub known : is_known commits joined.other.0 ≡ true

-- what the decision is on: a fast-forward to a commit that is known, or a clean merge
abbrev pub IsClosing : (List ℕ → List ℕ) → Chunks → Commits → Closing → Ending → Type 0
IsClosing address chunks commits (closing.Forward other) ending = (ending ≡ Forwarding other.0) × (is_known commits other.0 ≡ true)
IsClosing address chunks commits (closing.Join joined) ending = IsJoin address chunks commits joined ending

-- it has its decision, or it doesn't and is a step of the session's own
abbrev pub IsMergeCourse : (List ℕ → List ℕ) → Chunks → Commits → MergeCourse → Outcome Worked → Type 0
IsMergeCourse address chunks commits (course.Closes found) wanted = (ending : Ending) × (wanted ≡ Ok (Closes ending)) × IsClosing address chunks commits found ending
IsMergeCourse address chunks commits (course.Stays made) wanted = IsStep address chunks commits made wanted

abbrev pub is_decided : MergeCourse → Bool
is_decided (course.Closes found) = true
is_decided (course.Stays made) = false

-- ---- the message

-- a commit may have it
abbrev pub IsShort : Closing → Type 0
IsShort (closing.Forward other) = Unit {0}
IsShort (closing.Join joined) = length joined.message ≤ 8192

abbrev pub IsShortCourse : MergeCourse → Type 0
IsShortCourse (course.Closes found) = IsShort found
IsShortCourse (course.Stays made) = Unit {0}

-- ---- the draft

-- it needs what was put into the draft, for a clean merge or for another record of the session's own
abbrev pub keeps_put : Result MergeCourse PutFault → Bool
keeps_put (Ok (course.Closes (closing.Forward other))) = false
keeps_put (Ok (course.Closes (closing.Join joined))) = true
keeps_put (Ok (course.Stays (step.Made made))) = true
keeps_put (Ok (course.Stays (step.Refused number))) = false
keeps_put (Err fault) = false

-- why it was given up, by what the draft held before it went back
pub record IsReasonOver (address : List ℕ → List ℕ) (old : Drafting) (fault : PutFault) : Type 0 where
  pub then_held : Drafting
  pub grown : Grows is_data old then_held
  pub reason : IsReason address (chunks_of then_held.chunks) fault
