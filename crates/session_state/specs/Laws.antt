-- What follows of records, commits, transactions and states that stand in chunks.
use Rattle.std.specs.Prelude.{◌≡◌, ℕ, ℤ, true, List, [], ◌∷◌, ◌++◌, map, Some, None, bytes_eq, codes, if◌then◌else◌}
use Rattle.std.specs.List.{find}
use Rattle.tuple_codec.specs.Rows.{AreTold}
use Rattle.tuple_codec.specs.declared.records.BranchRecord.{BranchRecord}
use Rattle.schema_model.specs.Limits.{is_database_within_limits}
use Rattle.schema_model.specs.PlainCommits.{Commits, IsGrown, PlainCommit, commit_address, has_address, is_known, plain_commit_bytes}
use Rattle.schema_model.specs.WrittenForms.{database_address, database_bytes}
use Rattle.chunk_store.specs.Chunks.{AreNamed, Chunk, Chunks, Extends, IsSingle, Lists, chunk_bytes}
use Rattle.chunk_store.specs.Drafts.{DraftParts, Longer, chunks_of}
use Rattle.chunk_store.specs.Standing.{IsThere}
use Rattle.chunk_store.specs.Stores.{IsUnion, all_chunks}
use Rattle.chunk_store.specs.Kinds.{is_commit}
use Rattle.commit_graph.specs.Standing.{IsCommitThere}
use Rattle.script_text.specs.declared.outputs.BranchLine.{BranchLine}
use Rattle.table_root.specs.declared.heads.BranchHead.{BranchHead}
use Rattle.table_root.specs.declared.heads.Look.{Look}
use Rattle.plain_sessions.specs.Moments.{Change, commits_with, with_change}
use Rattle.plain_sessions.specs.Records.{BranchState, Shared, first_commit, is_same_state, opening, state_of, with_new_commit}
use Rattle.plain_sessions.specs.Sessions.{Transaction, started_at}
use Rattle.plain_sessions.specs.StateLimits.{is_date}
use Rattle.session_state.specs.Changes.{ChangeStands, Parts, StateStands}
use Rattle.session_state.specs.Commits.{AreAmong, CommitsAreThere, HasNoCommit}
use Rattle.session_state.specs.Records.{RecordStands}
use Rattle.session_state.specs.Transactions.{IsLookOf, TransactionStands}

-- a record that stands goes on standing where more is found and more commits are known; it stands for one state, one state has one
-- record, and records are compared as states are
pub record RecordsFollow : Type 0 where
  pub later : (address : List ℕ → List ℕ) (old new : Chunks) (commits others : Commits) (rec : BranchRecord) (state : BranchState) → Extends old new
      → ((k : List ℕ) → is_known commits k ≡ true → is_known others k ≡ true) → RecordStands address old commits rec state → RecordStands address new others rec state
  pub one : (address : List ℕ → List ℕ) (chunks : Chunks) (commits others : Commits) (rec : BranchRecord) (state other : BranchState)
      → RecordStands address chunks commits rec state → RecordStands address chunks others rec other → state ≡ other
  pub same : (address : List ℕ → List ℕ) (chunks : Chunks) (commits others : Commits) (rec other : BranchRecord) (state : BranchState)
      → RecordStands address chunks commits rec state → RecordStands address chunks others other state → rec ≡ other
  pub told : AreTold is_same_state

-- commits that stand in the same chunks are the same; they are among those of chunks in which more is found; and they stand where chunks
-- are added, of which none or only the one that is made is a commit
pub record CommitsFollow : Type 0 where
  pub one : (address : List ℕ → List ℕ) (chunks : Chunks) (commits others : Commits) → CommitsAreThere address chunks commits → CommitsAreThere address chunks others
      → (k : List ℕ) → commits k ≡ others k
  pub among : (address : List ℕ → List ℕ) (old new : Chunks) (commits others : Commits) → Extends old new → CommitsAreThere address old commits
      → CommitsAreThere address new others → AreAmong commits others
  -- chunks more, of which none is a commit
  pub beside : (address : List ℕ → List ℕ) (store more : List Chunk) (commits : Commits) → HasNoCommit more → CommitsAreThere address (chunk_bytes store) commits
      → CommitsAreThere address (chunk_bytes (store ++ more)) commits
  -- chunks more, of which no other than this one is a commit, and it has a parent
  pub with_one : (address : List ℕ → List ℕ) (store more : List Chunk) (commits : Commits) (commit : PlainCommit) → CommitsAreThere address (chunk_bytes store) commits
      → IsCommitThere address (chunk_bytes (store ++ more)) (commit_address address commit) commit → IsGrown commits commit → is_database_within_limits commit.database ≡ true
      → (parent : List ℕ) → has_address commit.parents parent ≡ true
      → ((k bytes : List ℕ) → chunk_bytes more k ≡ Some bytes → is_commit bytes ≡ true → k ≡ commit_address address commit)
      → (after : Commits) × (with_new_commit address commit commits ≡ Some after) × CommitsAreThere address (chunk_bytes (store ++ more)) after

-- a transaction that starts at a look stands in a draft over the look's store; and it goes on standing, with whatever own record, where the
-- draft grew; it is one transaction
pub record TransactionsFollow : Type 0 where
  pub started : (address : List ℕ → List ℕ) (look kept : Look) (shared : Shared) (look_is : IsLookOf address look shared) → kept.rec ≡ look.rec → kept.heads ≡ look.heads
      → TransactionStands address (record { base = all_chunks look.store; own = [] }) kept look.rec (started_at shared look_is.state)
  pub grown : (address : List ℕ → List ℕ) (old new : DraftParts) (look : Look) (own rec : BranchRecord) (t : Transaction) (state : BranchState) → Longer old new
      → TransactionStands address old look own t → RecordStands address (chunks_of new) t.commits rec state
      → TransactionStands address new look rec (record t { own = state })
  pub one : (address : List ℕ → List ℕ) (draft : DraftParts) (look : Look) (own : BranchRecord) (t other : Transaction)
      → TransactionStands address draft look own t → TransactionStands address draft look own other → t ≡ other

-- the lines with another record for one branch
abbrev pub with_record : List ℕ → BranchRecord → List BranchLine → List BranchLine
with_record name rec lines = map (λ line. if bytes_eq line.name name then record { name = line.name; rec = rec } else line) lines

-- the heads of branches, by their names
abbrev pub head_in : BranchLine → BranchHead
head_in line = record { branch = line.name; head = line.rec.head }

-- what a change that was planned over a store leaves of a state found, whose chunks list the store's; what a look at parts shows; and how
-- the shared state begins
pub record StatesFollow : Type 0 where
  -- the look's state has a commit, as its branch's record names one
  pub settled : (address : List ℕ → List ℕ) (store sealed : List Chunk) (look : Commits) (parts left : Parts) (found : Shared) (name head : List ℕ) (rec : BranchRecord) (state : BranchState) (change : Change)
      → CommitsAreThere address (chunk_bytes store) look → is_known look head ≡ true → Lists store parts.chunks
      → ChangeStands address store sealed look rec change
      → StateStands address parts found → state_of found.branches name ≡ Some state
      → left.branches ≡ with_record name rec parts.branches → left.places ≡ parts.places
      → IsUnion parts.chunks sealed left.chunks → IsSingle left.chunks
      → (after : Commits) × (commits_with address change.made found.commits ≡ Some after) × StateStands address left (with_change name change found after)
  -- one state stands for given parts
  pub one : (address : List ℕ → List ℕ) (parts : Parts) (shared other : Shared) → StateStands address parts shared → StateStands address parts other → shared ≡ other
  -- a look at one of the branches shows the state
  pub looked : (address : List ℕ → List ℕ) (parts : Parts) (shared : Shared) (look : Look) (line : BranchLine) → StateStands address parts shared
      → find (λ (other : BranchLine). bytes_eq other.name look.branch) parts.branches ≡ Some line → look.rec ≡ line.rec
      → look.heads ≡ map head_in parts.branches → all_chunks look.store ≡ parts.chunks → IsLookOf address look shared
  -- the first commit and the empty database are all that is there at the opening
  pub opened : (address : List ℕ → List ℕ) (epoch : ℤ) (names : List (List ℕ)) (parts : Parts) (rec : BranchRecord) → is_date epoch ≡ true
      → IsThere address (chunk_bytes parts.chunks) (plain_commit_bytes address (first_commit epoch)) → IsThere address (chunk_bytes parts.chunks) (database_bytes address [])
      → ((k bytes : List ℕ) → chunk_bytes parts.chunks k ≡ Some bytes → is_commit bytes ≡ true → k ≡ commit_address address (first_commit epoch))
      → AreNamed address parts.chunks → IsSingle parts.chunks
      → parts.branches ≡ record { name = codes "main"; rec = rec } ∷ [] → rec.head.0 ≡ commit_address address (first_commit epoch)
      → rec.working.0 ≡ database_address address [] → rec.staged.0 ≡ database_address address [] → rec.merging ≡ None
      → parts.places ≡ map (λ name. codes "main") names → StateStands address parts (opening address epoch names)
