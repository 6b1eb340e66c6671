-- What a call that isn't decided on makes of the session's own record.
use Rattle.std.specs.Prelude.{◌≡◌, ℕ, Bool, true, false, List, Result, Ok, Err}
use Rattle.chunk_store.specs.Chunks.{Chunks}
use Rattle.chunk_store.specs.Drafts.{Drafting, cut_to, pages_in}
use Rattle.chunk_store.specs.declared.faults.PutFault.{PutFault}
use Rattle.chunk_store.specs.declared.faults.PutFault.TheVariants.{Memory, Collision}
use Rattle.expr_eval.specs.Binding.{Outcome}
use Rattle.schema_model.specs.PlainCommits.{Commits}
use Rattle.plain_sessions.specs.Merging.{Worked, Answers}
use Rattle.plain_sessions.specs.Records.{BranchState}
use Rattle.plain_sessions.specs.Replies.{is_refusal}
use Rattle.plain_sessions.specs.declared.commands.Work.{Work}
use Rattle.plain_sessions.specs.declared.commands.Work.TheVariants as work
use Rattle.script_text.specs.declared.replies.Reply.{Reply}
use Rattle.script_text.specs.declared.replies.Reply.TheVariants.{Refused, Collided}
use Rattle.session_state.specs.Records.{RecordStands}
use Rattle.session_state.specs.declared.sessions.Session.{Session}
use Rattle.session_plan.specs.Showing.{is_plain_reply}
use Rattle.merge_procs.specs.declared.steps.Made.{Made}
use Rattle.merge_procs.specs.declared.steps.Step.{Step}
use Rattle.merge_procs.specs.declared.steps.Step.TheVariants as step

-- DOLT_MERGE, DOLT_CONFLICTS_RESOLVE and DOLT_VERIFY_CONSTRAINTS
abbrev pub merges : Work → Bool
merges (work.Merge request) = true
merges (work.Resolve request) = true
merges (work.Verify way) = true
merges other = false

-- a reply, and a record that stands for what the own state becomes
pub record IsMade (address : List ℕ → List ℕ) (chunks : Chunks) (commits : Commits) (made : Made) (wanted : Outcome Worked) : Type 0 where
  pub own : BranchState
  pub is : wanted ≡ Ok (Answers made.reply own)
  pub plain : is_plain_reply made.reply ≡ true
  pub well : is_refusal made.reply ≡ false
  pub stands : RecordStands address chunks commits made.rec own

abbrev pub IsStep : (List ℕ → List ℕ) → Chunks → Commits → Step → Outcome Worked → Type 0
IsStep address chunks commits (step.Made made) wanted = IsMade address chunks commits made wanted
IsStep address chunks commits (step.Refused number) wanted = wanted ≡ Err number

-- ---- how a step is taken

-- a record was made
abbrev pub is_made : Step → Bool
is_made (step.Made made) = true
is_made (step.Refused number) = false

abbrev pub is_made_by : Result Step PutFault → Bool
is_made_by (Ok found) = is_made found
is_made_by (Err fault) = false

-- want of memory, or the two byte strings
abbrev pub IsToldFault : PutFault → Reply → Type 0
IsToldFault Memory reply = reply ≡ Refused 1
IsToldFault (Collision clash) reply = reply ≡ Collided clash

-- all of the session but its draft is as it was
abbrev pub IsSame : {D : Type 0} → Session D → Session D → Type 0
IsSame old new = new ≡ record old { draft = new.draft }

-- all that is in a draft stays, or it has what it had at the mark
pub record IsBackUnless (mark : ℕ) (stays : Bool) (old new : Drafting) : Type 0 where
  pub kept : stays ≡ true → new ≡ old
  pub cut : stays ≡ false → new.chunks ≡ cut_to mark old.chunks
  pub segments : new.segments ≡ old.segments
  pub pages : pages_in new ≡ pages_in old
