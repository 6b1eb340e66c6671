-- What a settled decision leaves of the state that stands in the parts.
use Rattle.std.specs.Prelude.{◌≡◌, ◌≢◌, ◌⊎◌, ℕ, true, List, [], ◌++◌, Option, None, Some, if◌then◌else◌}
use Rattle.std.specs.Option.{IfSome, option_map}
use Rattle.tuple_codec.specs.declared.records.BranchRecord.{BranchRecord}
use Rattle.schema_model.specs.Limits.{is_database_within_limits}
use Rattle.schema_model.specs.PlainCommits.{Commits, PlainCommit, has_address, is_known}
use Rattle.chunk_store.specs.Chunks.{AreNamed, Chunk, IsSingle, Lists, chunk_bytes}
use Rattle.chunk_store.specs.Kinds.{is_commit}
use Rattle.chunk_store.specs.Stores.{all_chunks}
use Rattle.commit_graph.specs.Standing.{IsCommitAt}
use Rattle.script_text.specs.declared.replies.Reply.{Reply}
use Rattle.table_root.specs.Kept.{IsKeptAt}
use Rattle.table_root.specs.declared.heads.Look.{Look}
use Rattle.plain_sessions.specs.Moments as plain
use Rattle.plain_sessions.specs.Moments.{commits_with, with_change}
use Rattle.plain_sessions.specs.Records.{BranchState, Shared}
use Rattle.session_state.specs.Changes.{ChangeStands, Parts, StateStands}
use Rattle.session_state.specs.Commits.{CommitsAreThere}
use Rattle.shared_db.specs.Shared.{IsSettled, record_at}
use Rattle.shared_db.specs.declared.changes.RecordChange.{RecordChange}
use Rattle.shared_db.specs.declared.changes.RecordChange.TheVariants as change

-- the parts still have the chunks of a look's store; these commits and no others are in it, the head of the look's branch among them
pub record HasLooked (address : List ℕ → List ℕ) (look : Look) (commits : Commits) (parts : Parts) : Type 0 where
  pub listed : Lists (all_chunks look.store) parts.chunks
  pub there : CommitsAreThere address (chunk_bytes (all_chunks look.store)) commits
  pub head : is_known commits look.rec.head.0 ≡ true

-- chunks more, which are named, and no commits that the store lacks
pub record BringsNoCommit (address : List ℕ → List ℕ) (store sealed : List Chunk) : Type 0 where
  pub named : AreNamed address sealed
  pub known : (k bytes : List ℕ) → chunk_bytes sealed k ≡ Some bytes → is_commit bytes ≡ true → chunk_bytes store k ≡ Some bytes

-- Whatever state stands in the parts: where nothing was changed it still stands. Where the branch has another record, which stands for a change in the
-- look's store and what is sealed, what is left stands for the state with this change, the commit that it makes among its commits
abbrev pub StateGoesOn : Look → RecordChange → List Chunk → Parts → Parts → Type 0
StateGoesOn look change.Nothing sealed old new =
    (address : List ℕ → List ℕ) (commits : Commits) (found : Shared) → StateStands address old found → HasLooked address look commits old
    → BringsNoCommit address (all_chunks look.store) sealed → StateStands address new found
StateGoesOn look (change.Record rec) sealed old new =
    (address : List ℕ → List ℕ) (commits : Commits) (found : Shared) (planned : plain.Change) → StateStands address old found → HasLooked address look commits old
    → ChangeStands address (all_chunks look.store) sealed commits rec planned
    → (after : Commits) × (commits_with address planned.made found.commits ≡ Some after) × StateStands address new (with_change look.branch planned found after)

-- the chunks that came in
abbrev pub sealed_in : Option (List Chunk) → List Chunk
sealed_in None = []
sealed_in (Some sealed) = sealed

-- a settled decision at a branch that is there leaves the state so
abbrev pub SettlesFollow : Type 0
SettlesFollow = (session statement : ℕ) (look : Look) (change : RecordChange) (sealed : Option (List Chunk)) (old new : Parts)
    → IsSettled session statement look.branch change sealed old new → IsSingle new.chunks → record_at look.branch old.branches ≢ None
    → StateGoesOn look change (sealed_in sealed) old new

-- ---- which records are fit to be settled

-- the commit that a head is, where these commits lack it
abbrev pub made_over : Commits → List ℕ → PlainCommit → Option PlainCommit
made_over commits k commit = if is_known commits k then None else Some commit

-- a record for this state, whose head is this commit, beside a store and what is sealed
pub record IsFit (address : List ℕ → List ℕ) (store sealed : List Chunk) (rec : BranchRecord) (state : BranchState) (head : PlainCommit) : Type 0 where
  -- what the record names stands in both together, and keeps the limits
  pub is_head : rec.head.0 ≡ state.head
  pub is_merging : option_map (λ k. k.0) rec.merging ≡ state.merging
  pub working : IsKeptAt address (chunk_bytes (store ++ sealed)) rec.working.0 state.working
  pub staged : IsKeptAt address (chunk_bytes (store ++ sealed)) rec.staged.0 state.staged
  pub head_stands : IsCommitAt address (chunk_bytes (store ++ sealed)) state.head head
  pub head_within : is_database_within_limits head.database ≡ true
  pub merging_stands : IfSome state.merging (λ k. (commit : PlainCommit) × IsCommitAt address (chunk_bytes (store ++ sealed)) k commit)
  -- what is sealed is named; each commit in it is in the store, or is the head
  pub named : AreNamed address sealed
  pub brings : (k bytes : List ℕ) → chunk_bytes sealed k ≡ Some bytes → is_commit bytes ≡ true → (chunk_bytes store k ≡ Some bytes) ⊎ (k ≡ state.head)
  -- a head that the store lacks has a parent
  pub has_parent : chunk_bytes store state.head ≡ None → (parent : List ℕ) × (has_address head.parents parent ≡ true)

-- such a record stands for a change over the commits of the store, which makes its head where they lack it
abbrev pub FitsFollow : Type 0
FitsFollow = (address : List ℕ → List ℕ) (store sealed : List Chunk) (commits : Commits) (rec : BranchRecord) (state : BranchState) (head : PlainCommit) (reply : Reply)
    → CommitsAreThere address (chunk_bytes store) commits → IsFit address store sealed rec state head
    → ChangeStands address store sealed commits rec (record { becomes = state; made = made_over commits state.head head; reply = reply })
