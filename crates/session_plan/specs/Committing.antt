-- The steps of a decision: the draft in which one is worked, the commit that it makes, and its plan.
use Rattle.std.specs.Prelude.{◌≡◌, ℕ, true, List, ◌∷◌, length}
use Rattle.std.specs.Option.{option_map_or, option_to_list}
use Rattle.tuple_codec.specs.declared.addresses.Address.{Address}
use Rattle.tuple_codec.specs.declared.records.BranchRecord.{BranchRecord}
use Rattle.chunk_store.specs.Chunks.{Agree, IsSingle, chunk_bytes}
use Rattle.chunk_store.specs.Drafts.{DraftParts, Drafting, chunks_of, put_in}
use Rattle.chunk_store.specs.Stores.{IsBrought, all_chunks}
use Rattle.commit_graph.specs.Commits.{IsCommitFound}
use Rattle.schema_model.specs.PlainCommits.{Commits, PlainCommit, commit_address, commit_parts, is_known, plain_commit_bytes}
use Rattle.script_text.specs.declared.replies.Reply.{Reply}
use Rattle.plain_sessions.specs.Records.{BranchState}
use Rattle.root_merge.specs.States.{BranchStateStands}
use Rattle.session_state.specs.Commits.{CommitsAreThere}
use Rattle.shared_db.specs.Plans.{brought}
use Rattle.shared_db.specs.declared.changes.DecisionPlan.{DecisionPlan}
use Rattle.shared_db.specs.declared.changes.RecordChange.TheVariants.{Record}
use Rattle.table_root.specs.declared.heads.Look.{Look}
use Rattle.session_state.specs.declared.sessions.Session.{Session}

-- a draft over the look's store that has what the session's draft has of its own
pub record IsWorkOf {D : Type 0} (session : Session D) (look : Look) (work : Drafting) : Type 0 where
  pub base : work.chunks.base ≡ all_chunks look.store
  pub own : work.chunks.own ≡ session.draft.chunks.own
  pub segments : work.segments ≡ look.store.segments
  pub agree : Agree (chunk_bytes (all_chunks look.store)) (chunk_bytes session.draft.chunks.own)
  pub single : IsSingle (all_chunks look.store)

-- a record that stands in a draft, and the branch's head as it is now, over a store that has the commits
pub record CanCommit (address : List ℕ → List ℕ) (draft : DraftParts) (rec : BranchRecord) (present : Address) (commits : Commits) (state : BranchState) : Type 0 where
  pub stands : BranchStateStands address (chunks_of draft) rec state
  pub all_there : CommitsAreThere address (chunk_bytes draft.base) commits
  pub present_known : is_known commits present.0 ≡ true
  pub merging_known : option_map_or (is_known commits) state.merging true ≡ true

-- the commits on which it is made
abbrev pub parents_on : Address → BranchState → List (List ℕ)
parents_on present state = present.0 ∷ option_to_list state.merging

-- the commit was put into the draft, where it wasn't there
pub record IsCommitWritten (address : List ℕ → List ℕ) (old new : DraftParts) (commit : PlainCommit) (k : Address) : Type 0 where
  pub named : k.0 ≡ commit_address address commit
  pub length_is : length k.0 ≡ 20
  pub found : IsCommitFound (chunks_of new) k.0 (commit_parts address commit)
  pub chunks : new ≡ put_in address (plain_commit_bytes address commit) old

-- the plan's record is this one, it answers so, and what it brings was sealed of a draft
pub record IsPlannedOf (work : Drafting) (rec : BranchRecord) (reply : Reply) (plan : DecisionPlan) : Type 0 where
  pub change : plan.change ≡ Record rec
  pub reply_is : plan.reply ≡ reply
  pub sealed : IsBrought work.segments work.chunks.own (brought plan)
