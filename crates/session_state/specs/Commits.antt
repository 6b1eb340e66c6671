-- The commits that stand in chunks, and no others.
use Rattle.std.specs.Prelude.{◌≡◌, ℕ, true, List, Some}
use Rattle.schema_model.specs.Limits.{is_database_within_limits}
use Rattle.schema_model.specs.PlainCommits.{Commits, PlainCommit, is_known}
use Rattle.chunk_store.specs.Chunks.{Chunk, Chunks, chunk_bytes}
use Rattle.chunk_store.specs.Kinds.{is_commit}
use Rattle.commit_graph.specs.Standing.{CommitsStand}
use Rattle.plain_sessions.specs.StateLimits.{IsFirst}

-- the chunks that are commits are just these, each with its ancestors and a database within the limits; one is an ancestor of all
pub record CommitsAreThere (address : List ℕ → List ℕ) (chunks : Chunks) (commits : Commits) : Type 0 where
  pub stand : CommitsStand address chunks commits
  pub no_others : (k bytes : List ℕ) → chunks k ≡ Some bytes → is_commit bytes ≡ true → is_known commits k ≡ true
  pub within : (k : List ℕ) (commit : PlainCommit) → commits k ≡ Some commit → is_database_within_limits commit.database ≡ true
  pub first : (k : List ℕ) × IsFirst commits k

-- none of these chunks is a commit
abbrev pub HasNoCommit : List Chunk → Type 0
HasNoCommit chunks = (k bytes : List ℕ) → chunk_bytes chunks k ≡ Some bytes → is_commit bytes ≡ true → ⊥

-- all commits of the one look-up are in the other
abbrev pub AreAmong : Commits → Commits → Type 0
AreAmong some others = (k : List ℕ) (commit : PlainCommit) → some k ≡ Some commit → others k ≡ Some commit
