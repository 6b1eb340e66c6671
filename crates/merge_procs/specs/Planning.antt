-- How a DOLT_MERGE's decision is planned.
use Rattle.std.specs.Prelude.{◌≡◌, ℕ, true, List, ◌++◌, codes, None, Some, unwrap_or}
use Rattle.tuple_codec.specs.AddressTexts.{address_text}
use Rattle.tuple_codec.specs.declared.addresses.Address.{Address}
use Rattle.tuple_codec.specs.declared.records.BranchRecord.{BranchRecord}
use Rattle.chunk_store.specs.Chunks.{chunk_bytes}
use Rattle.chunk_store.specs.Drafts.{DraftParts, Drafting, Grows, IsSound, chunks_of}
use Rattle.chunk_store.specs.Kinds.{is_data}
use Rattle.table_root.specs.Kept.{IsKeptAt}
use Rattle.schema_model.specs.PlainCommits.{Commits, PlainCommit, is_known}
use Rattle.schema_model.specs.PlainTables.{PlainDatabase}
use Rattle.script_text.specs.declared.replies.Reply.{Reply}
use Rattle.sql_procedures.specs.declared.requests.MergeOf.{MergeOf}
use Rattle.plain_sessions.specs.Merging.{merge_reply}
use Rattle.root_merge.specs.Merging.{AreRoots}
use Rattle.session_state.specs.Commits.{CommitsAreThere}
use Rattle.shared_db.specs.declared.changes.DecisionPlan.{DecisionPlan}
use Rattle.session_plan.specs.Committing.{IsCommitWritten, IsPlannedOf}
use Rattle.merge_procs.specs.declared.ways.Three.{Three}

-- the message that is given, or one of both names
abbrev pub message_on : List ℕ → MergeOf → List ℕ
message_on branch request = unwrap_or request.message (codes "Merge " ++ request.name ++ codes " into " ++ branch)

-- at a commit with this database: nothing is changed, staged or being merged
abbrev pub clean_record : Address → Address → BranchRecord
clean_record head root = record { head = head; working = root; staged = root; merging = None }

-- the merged database, while the other commit is being merged
abbrev pub joining_record : Address → Address → Address → BranchRecord
joining_record head root other = record { head = head; working = root; staged = root; merging = Some other }

-- the answer of a merge that succeeds
abbrev pub success : List ℕ → ℕ → Reply
success k forward = merge_reply (address_text k) forward 0 (codes "merge successful")

-- the plan's record is at the other commit, whose database is this one
pub record IsForwarded (address : List ℕ → List ℕ) (work : Drafting) (other : Address) (database : PlainDatabase) (plan : DecisionPlan) : Type 0 where
  pub root : Address
  pub kept : IsKeptAt address (chunks_of work.chunks) root.0 database
  pub planned : IsPlannedOf work (clean_record other root) (success other.0 1) plan

-- three databases stand in a draft over a store that has the commits, the head and the other commit among them
pub record CanMergeRoots (address : List ℕ → List ℕ) (draft : DraftParts) (head : Address) (three : Three) (commits : Commits) (b o t : PlainDatabase) : Type 0 where
  pub roots : AreRoots address (chunks_of draft) three.base three.ours three.theirs b o t
  pub all_there : CommitsAreThere address (chunk_bytes draft.base) commits
  pub head_known : is_known commits head.0 ≡ true
  pub other_known : is_known commits three.other.0 ≡ true

-- the plan's record is at the commit, which was put into the work
pub record IsJoined (address : List ℕ → List ℕ) (work : Drafting) (commit : PlainCommit) (root : Address) (plan : DecisionPlan) : Type 0 where
  pub k : Address
  pub after : Drafting
  pub written : IsCommitWritten address work.chunks after.chunks commit k
  pub segments : after.segments ≡ work.segments
  pub sound : IsSound address after.chunks
  pub planned : IsPlannedOf after (clean_record k root) (success k.0 0) plan

-- the merged database was put into the work, and then the commit of it
pub record IsMergeCommitted (address : List ℕ → List ℕ) (work : Drafting) (commit : PlainCommit) (plan : DecisionPlan) : Type 0 where
  pub met : Drafting
  pub grown : Grows is_data work met
  pub root : Address
  pub kept : IsKeptAt address (chunks_of met.chunks) root.0 commit.database
  pub joined : IsJoined address met commit root plan
