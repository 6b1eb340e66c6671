-- What a session sees of the shared state: a look at one moment, and a transaction that began with it.
use Rattle.std.specs.Prelude.{◌≡◌, ⊤, ℕ, true, List, map, Option, None, Some}
use Rattle.std.specs.List.{list_all}
use Rattle.tuple_codec.specs.declared.records.BranchRecord.{BranchRecord}
use Rattle.schema_model.specs.PlainCommits.{is_known}
use Rattle.chunk_store.specs.Chunks.{AreNamed, chunk_bytes}
use Rattle.chunk_store.specs.Drafts.{DraftParts, chunks_of}
use Rattle.chunk_store.specs.Stores.{all_chunks}
use Rattle.table_root.specs.declared.heads.BranchHead.{BranchHead}
use Rattle.table_root.specs.declared.heads.Look.{Look}
use Rattle.plain_sessions.specs.Records.{BranchState, Shared, state_of}
use Rattle.plain_sessions.specs.Sessions as plain
use Rattle.plain_sessions.specs.Sessions.{Transaction, head_of}
use Rattle.session_state.specs.Commits.{CommitsAreThere}
use Rattle.session_state.specs.Records.{RecordStands}

abbrev pub head_seen : BranchHead → plain.Head
head_seen head = record { name = head.branch; commit = head.head.0 }

-- a look at the state of its branch: the look's store has all that the record and the commits name
pub record IsLookOf (address : List ℕ → List ℕ) (look : Look) (shared : Shared) : Type 0 where
  pub state : BranchState
  pub there : state_of shared.branches look.branch ≡ Some state
  pub stands : RecordStands address (chunk_bytes (all_chunks look.store)) shared.commits look.rec state
  pub heads : map head_seen look.heads ≡ map head_of shared.branches
  pub heads_known : list_all (λ branch. is_known shared.commits branch.state.head) shared.branches ≡ true
  pub commits : CommitsAreThere address (chunk_bytes (all_chunks look.store)) shared.commits
  pub named : AreNamed address (all_chunks look.store)

-- the record at the start and the session's own stand in its draft; the commits are those of the store below it
pub record TransactionStands (address : List ℕ → List ℕ) (draft : DraftParts) (look : Look) (own : BranchRecord) (t : Transaction) : Type 0 where
  pub start : RecordStands address (chunks_of draft) t.commits look.rec t.start
  pub own_stands : RecordStands address (chunks_of draft) t.commits own t.own
  pub heads : map head_seen look.heads ≡ t.heads
  pub heads_known : list_all (λ head. is_known t.commits head.commit) t.heads ≡ true
  pub commits : CommitsAreThere address (chunk_bytes draft.base) t.commits

-- a session outside a transaction has neither
abbrev pub StartStands : (List ℕ → List ℕ) → DraftParts → Option Look → BranchRecord → Option Transaction → Type 0
StartStands address draft None own None = ⊤
StartStands address draft (Some look) own (Some t) = TransactionStands address draft look own t
StartStands address draft start own t = ⊥
