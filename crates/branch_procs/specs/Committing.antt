-- What a DOLT_COMMIT decides on, and how the record at its commit is planned.
use Rattle.std.specs.Prelude.{◌≡◌, ℕ, List, [], ◌∷◌, codes, None}
use Rattle.tuple_codec.specs.AddressTexts.{address_text}
use Rattle.tuple_codec.specs.declared.addresses.Address.{Address}
use Rattle.tuple_codec.specs.declared.records.BranchRecord.{BranchRecord}
use Rattle.chunk_store.specs.Drafts.{DraftParts, Drafting, IsSound, chunks_of}
use Rattle.schema_model.specs.PlainCommits.{Commits, PlainCommit}
use Rattle.script_text.specs.declared.replies.Reply.{Reply}
use Rattle.sql_procedures.specs.declared.requests.Staging.{Staging}
use Rattle.plain_sessions.specs.Branching.{staged_first}
use Rattle.plain_sessions.specs.Records.{BranchState, root_of}
use Rattle.plain_sessions.specs.Replies.{one_row, text_field}
use Rattle.root_merge.specs.States.{BranchStateStands}
use Rattle.shared_db.specs.declared.changes.DecisionPlan.{DecisionPlan}
use Rattle.session_plan.specs.Calls.{OwnStands}
use Rattle.session_plan.specs.Committing.{IsCommitWritten, IsPlannedOf}

-- the records of three states: of the start, of the branch as it is now, and of the session, over a store that has the commits
pub record CanDecide (address : List ℕ → List ℕ) (draft : DraftParts) (start present own : BranchRecord) (commits : Commits) (s p o : BranchState) : Type 0 where
  pub start_stands : BranchStateStands address (chunks_of draft) start s
  pub present_stands : BranchStateStands address (chunks_of draft) present p
  pub own_stands : OwnStands address draft own commits o

-- the state with what a commit stages first
abbrev pub staged_in : Commits → Staging → BranchState → BranchState
staged_in commits staging own = record own { staged = staged_first (root_of commits own.head) staging own }

abbrev pub hash_reply : List ℕ → Reply
hash_reply k = one_row (text_field (codes "hash") (address_text k) ∷ [])

-- the plan's record is at the commit, which was put into the work
pub record IsCommitted (address : List ℕ → List ℕ) (work : Drafting) (commit : PlainCommit) (rec : BranchRecord) (plan : DecisionPlan) : Type 0 where
  pub k : Address
  pub after : Drafting
  pub written : IsCommitWritten address work.chunks after.chunks commit k
  pub segments : after.segments ≡ work.segments
  pub sound : IsSound address after.chunks
  pub planned : IsPlannedOf after (record { head = k; working = rec.working; staged = rec.staged; merging = None }) (hash_reply k.0) plan
