-- Commits, and which commit stands at an address.
use Rattle.std.specs.Prelude.{◌≡◌, ◌<◌, ◌≤◌, ◌≤ℤ◌, ◌==◌, ◌^◌, ℕ, Bool, pos, true, false, List, length, map, Option, Some, None}
use Rattle.std.specs.List.{list_all}
use Rattle.tuple_codec.specs.Rows.{fits_bits}
use Rattle.schema_model.specs.Limits.{most_committer_bytes, most_message_bytes, most_parents}
use Rattle.schema_model.specs.WrittenForms.{CommitParts, commit_bytes}
use Rattle.chunk_store.specs.Chunks.{Chunks}
use Rattle.chunk_store.specs.Kinds.{is_commit}
use Rattle.commit_graph.specs.declared.commits.CommitRecord.{CommitRecord}

-- a record's parts
abbrev pub parts_of : CommitRecord → CommitParts
parts_of commit = record {
  root = commit.root.0;
  parents = map (λ parent. parent.0) commit.parents;
  height = commit.height;
  date = commit.date;
  committer = commit.committer;
  message = commit.message;
}

-- twenty bytes
abbrev pub is_address : List ℕ → Bool
is_address bytes = length bytes == 20

-- the root and each parent have twenty bytes
pub record HasAddresses (commit : CommitParts) : Type 0 where
  pub root : is_address commit.root ≡ true
  pub parents : list_all is_address commit.parents ≡ true

-- at most two parents, a date from 1970 on, a short committer and message
pub record KeepsLimits (commit : CommitParts) : Type 0 where
  pub few : length commit.parents ≤ most_parents
  pub height : commit.height < 2 ^ 64
  pub date : pos 0 ≤ℤ commit.date
  pub date_fits : fits_bits 63 commit.date ≡ true
  pub committer : length commit.committer ≤ most_committer_bytes
  pub message : length commit.message ≤ most_message_bytes

-- what the fields of a commit's form hold, whether or not it keeps the limits on data: at most two parents, a date from 1970 on
pub record FitsForm (commit : CommitParts) : Type 0 where
  pub addresses : HasAddresses commit
  pub few : length commit.parents ≤ most_parents
  pub height : commit.height < 2 ^ 64
  pub date : pos 0 ≤ℤ commit.date
  pub date_fits : fits_bits 63 commit.date ≡ true
  pub committer : length commit.committer < 2 ^ 16
  pub message : length commit.message < 2 ^ 16

-- these are the bytes of such a commit
abbrev pub IsCommitIn : List ℕ → CommitParts → Type 0
IsCommitIn bytes commit = FitsForm commit × (commit_bytes commit ≡ bytes)

-- what a commit is
pub record IsCommit (commit : CommitParts) : Type 0 where
  pub addresses : HasAddresses commit
  pub limits : KeepsLimits commit

-- the commit's bytes are found at the address
pub record IsCommitFound (chunks : Chunks) (k : List ℕ) (commit : CommitParts) : Type 0 where
  pub is_commit : IsCommit commit
  pub held : chunks k ≡ Some (commit_bytes commit)

-- some commit's are
abbrev pub HasCommit : Chunks → List ℕ → Type 0
HasCommit chunks k = (commit : CommitParts) × IsCommitFound chunks k commit

-- something is found, and it is a commit's by its first byte
abbrev pub is_commit_found : Option (List ℕ) → Bool
is_commit_found None = false
is_commit_found (Some bytes) = is_commit bytes

-- two commits with the same bytes are one
abbrev pub HasOneSpelling : Type 0
HasOneSpelling = (a b : CommitParts) → IsCommit a → IsCommit b → commit_bytes a ≡ commit_bytes b → a ≡ b
