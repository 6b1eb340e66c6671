-- Which plain commits stand in chunks.
use Rattle.std.specs.Prelude.{◌≡◌, ℕ, List, Option, Some, None}
use Rattle.schema_model.specs.PlainCommits.{AreGrown, Commits, IsGrown, PlainCommit, commit_address, commit_parts, plain_commit_bytes, with_commit}
use Rattle.schema_model.specs.WrittenForms.{database_address}
use Rattle.chunk_store.specs.Chunks.{Chunks, Extends}
use Rattle.chunk_store.specs.Standing.{IsThere}
use Rattle.prolly_tree.specs.Standing.{Exactly}
use Rattle.table_root.specs.Standing.{IsDatabaseAt}
use Rattle.commit_graph.specs.Commits.{IsCommit, IsCommitFound}

-- the address is the commit's, its bytes are found, and its database stands
pub record IsCommitThere (address : List ℕ → List ℕ) (chunks : Chunks) (k : List ℕ) (commit : PlainCommit) : Type 0 where
  pub is_commit : IsCommit (commit_parts address commit)
  pub named : commit_address address commit ≡ k
  pub there : IsThere address chunks (plain_commit_bytes address commit)
  pub database : IsDatabaseAt address chunks (database_address address commit.database) commit.database

-- each commit of a look-up is there, with its parents, and has its height
pub record CommitsStand (address : List ℕ → List ℕ) (chunks : Chunks) (commits : Commits) : Type 0 where
  pub each : (k : List ℕ) (commit : PlainCommit) → commits k ≡ Some commit → IsCommitThere address chunks k commit
  pub grown : AreGrown commits

-- an address stands for a commit: with all its ancestors it is there
abbrev pub IsCommitAt : (List ℕ → List ℕ) → Chunks → List ℕ → PlainCommit → Type 0
IsCommitAt address chunks k commit = (commits : Commits) × CommitsStand address chunks commits × (commits k ≡ Some commit)

-- what either look-up has
abbrev pub first_of : Option PlainCommit → Option PlainCommit → Option PlainCommit
first_of None other = other
first_of (Some commit) other = Some commit

abbrev pub in_either : Commits → Commits → Commits
in_either commits others k = first_of (commits k) (others k)

-- a commit that stands is found; an address stands for one commit, and two addresses for one commit exactly where they are the same;
-- commits stand when more is found; what stands in two look-ups stands together; and a commit that is there on commits that stand
-- stands with them
pub record CommitsFollow : Type 0 where
  pub found : (address : List ℕ → List ℕ) (chunks : Chunks) (k : List ℕ) (commit : PlainCommit) → IsCommitThere address chunks k commit
      → IsCommitFound chunks k (commit_parts address commit)
  pub one : (address : List ℕ → List ℕ) (chunks : Chunks) (k : List ℕ) (commit other : PlainCommit) → IsCommitThere address chunks k commit
      → IsCommitThere address chunks k other → commit ≡ other
  pub exactly : (address : List ℕ → List ℕ) (chunks : Chunks) (k l : List ℕ) (commit other : PlainCommit) → IsCommitAt address chunks k commit
      → IsCommitAt address chunks l other → Exactly (k ≡ l) (commit ≡ other)
  pub later : (address : List ℕ → List ℕ) (old new : Chunks) (commits : Commits) → Extends old new → CommitsStand address old commits → CommitsStand address new commits
  pub either : (address : List ℕ → List ℕ) (chunks : Chunks) (commits others : Commits) → CommitsStand address chunks commits → CommitsStand address chunks others
      → CommitsStand address chunks (in_either commits others)
  pub put : (address : List ℕ → List ℕ) (chunks : Chunks) (commits : Commits) (k : List ℕ) (commit : PlainCommit) → CommitsStand address chunks commits
      → IsCommitThere address chunks k commit → IsGrown commits commit → CommitsStand address chunks (with_commit k commit commits)
