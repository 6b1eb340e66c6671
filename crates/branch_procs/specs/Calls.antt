-- DOLT_ADD and DOLT_RESET in a session's transaction.
use Rattle.std.specs.Prelude.{◌≡◌, ◌⊎◌, ℕ, Bool, true, false, List, Ok, Err}
use Rattle.tuple_codec.specs.declared.records.BranchRecord.{BranchRecord}
use Rattle.chunk_store.specs.Drafts.{Drafting, Grows, chunks_of, cut_to}
use Rattle.chunk_store.specs.Kinds.{is_database}
use Rattle.chunk_store.specs.declared.faults.Clash.{Clash}
use Rattle.chunk_store.specs.declared.faults.PutFault.{PutFault}
use Rattle.chunk_store.specs.declared.faults.PutFault.TheVariants.{Memory, Collision}
use Rattle.expr_eval.specs.Binding.{Outcome}
use Rattle.schema_model.specs.PlainTables.{PlainDatabase}
use Rattle.script_text.specs.declared.replies.Reply.{Reply}
use Rattle.script_text.specs.declared.replies.Reply.TheVariants.{Refused, Collided}
use Rattle.plain_sessions.specs.Branching.{add, reset_to}
use Rattle.plain_sessions.specs.Records.{BranchState}
use Rattle.plain_sessions.specs.declared.commands.Work.{Work}
use Rattle.plain_sessions.specs.declared.commands.Work.TheVariants.{Add, ResetTo}
use Rattle.root_merge.specs.States.{BranchStateStands}
use Rattle.root_merge.specs.declared.candidates.Candidate.{Candidate}
use Rattle.root_merge.specs.declared.candidates.Candidate.TheVariants as candidate
use Rattle.session_plan.specs.Showing.{IsDue}
use Rattle.session_plan.specs.Calls.{status_reply}

-- it stages tables, or sets them back
abbrev pub stages : Work → Bool
stages (Add tables) = true
stages (ResetTo reset) = true
stages other = false

-- what such a call makes of the own state, by its head's database
abbrev pub staged_by : PlainDatabase → Work → BranchState → Outcome BranchState
staged_by root (Add tables) own = add tables own
staged_by root (ResetTo reset) own = reset_to root reset own
staged_by root other own = Ok own

-- it was done: the record stands for what the state became
pub record IsDone (address : List ℕ → List ℕ) (old new : Drafting) (own : BranchRecord) (wanted : Outcome BranchState) (reply : Reply) : Type 0 where
  pub made : BranchState
  pub is : wanted ≡ Ok made
  pub reply_is : reply ≡ status_reply
  pub stands : BranchStateStands address (chunks_of new.chunks) own made
  pub grows : Grows is_database old new

-- it was refused, or found no memory, or met two byte strings of one address
abbrev pub IsExcused : Outcome BranchState → Reply → Type 0
IsExcused wanted reply =
    ((number : ℕ) × (wanted ≡ Err number) × IsDue 1 (Refused number) reply) ⊎ ((reply ≡ Refused 1) ⊎ ((clash : Clash) × (reply ≡ Collided clash)))

-- nothing has changed
pub record IsUndone (old new : Drafting) (before after : BranchRecord) (wanted : Outcome BranchState) (reply : Reply) : Type 0 where
  pub chunks : new.chunks ≡ old.chunks
  pub record_is : after ≡ before
  pub excused : IsExcused wanted reply

abbrev pub Stages : (List ℕ → List ℕ) → Drafting → Drafting → BranchRecord → BranchRecord → Outcome BranchState → Reply → Type 0
Stages address old new before after wanted reply = IsDone address old new after wanted reply ⊎ IsUndone old new before after wanted reply

-- why nothing was done, as a reply
abbrev pub IsTold : PutFault → Reply → Type 0
IsTold Memory reply = reply ≡ Refused 1
IsTold (Collision clash) reply = reply ≡ Collided clash

-- the record was taken on, and the call is answered; or it was refused, and the draft is at its mark again
abbrev pub Settles : ℕ → Drafting → Drafting → BranchRecord → BranchRecord → Candidate → Reply → Type 0
Settles mark old new before after (candidate.Record rec) reply = (new ≡ old) × (after ≡ rec) × (reply ≡ status_reply)
Settles mark old new before after (candidate.Refused number) reply = (new.chunks ≡ cut_to mark old.chunks) × (after ≡ before) × IsDue 1 (Refused number) reply
