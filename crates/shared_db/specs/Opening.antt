-- What the shared database is opened with.
use Rattle.std.specs.Prelude.{◌≡◌, ℕ, ℤ, true, List, [], ◌∷◌, None, Some}
use Rattle.tuple_codec.specs.declared.records.BranchRecord.{BranchRecord}
use Rattle.chunk_store.specs.Chunks.{AreNamed, Chunk, IsSingle, Lists, chunk_bytes}
use Rattle.chunk_store.specs.Drafts.{DraftParts}
use Rattle.chunk_store.specs.Kinds.{is_commit}
use Rattle.chunk_store.specs.Standing.{IsThere}
use Rattle.chunk_store.specs.declared.faults.PutFault.{PutFault}
use Rattle.chunk_store.specs.declared.faults.PutFault.TheVariants.{Memory, Collision}
use Rattle.schema_model.specs.PlainCommits.{commit_address, plain_commit_bytes}
use Rattle.schema_model.specs.WrittenForms.{database_address, database_bytes}
use Rattle.plain_sessions.specs.Opening.{IsOpeningClash}
use Rattle.plain_sessions.specs.Records.{first_commit}

-- a draft that has the empty database alone
abbrev pub empty_alone : (List ℕ → List ℕ) → DraftParts
empty_alone address = record { base = []; own = (database_address address [], database_bytes address []) ∷ [] }

-- why no database was opened: memory was wanted, or its two chunks have one address
abbrev pub IsOpeningFault : (List ℕ → List ℕ) → ℤ → PutFault → Type 0
IsOpeningFault address epoch Memory = Unit {0}
IsOpeningFault address epoch (Collision clash) = IsOpeningClash address epoch clash

-- a draft that has the empty database and the first commit alone
abbrev pub both_alone : (List ℕ → List ℕ) → ℤ → DraftParts
both_alone address epoch = record {
  base = [];
  own = (database_address address [], database_bytes address []) ∷ (commit_address address (first_commit epoch), plain_commit_bytes address (first_commit epoch)) ∷ [];
}

-- the same chunks are listed
pub record HasJust (own chunks : List Chunk) : Type 0 where
  pub all : Lists own chunks
  pub only : Lists chunks own

-- the empty database and the first commit are there and nothing else, and the record is that of a branch at this commit
pub record IsOpened (address : List ℕ → List ℕ) (epoch : ℤ) (chunks : List Chunk) (rec : BranchRecord) : Type 0 where
  pub commit : IsThere address (chunk_bytes chunks) (plain_commit_bytes address (first_commit epoch))
  pub database : IsThere address (chunk_bytes chunks) (database_bytes address [])
  pub only : (k bytes : List ℕ) → chunk_bytes chunks k ≡ Some bytes → is_commit bytes ≡ true → k ≡ commit_address address (first_commit epoch)
  pub named : AreNamed address chunks
  pub single : IsSingle chunks
  pub head : rec.head.0 ≡ commit_address address (first_commit epoch)
  pub working : rec.working.0 ≡ database_address address []
  pub staged : rec.staged.0 ≡ database_address address []
  pub merging : rec.merging ≡ None
