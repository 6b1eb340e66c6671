-- The rows of commits, one after another.
use Rattle.std.specs.Prelude.{◌≡◌, ℕ, true, List, ◌∷◌, map}
use Rattle.std.specs.List.{flat_map, list_all}
use Rattle.chunk_store.specs.Chunks.{Chunks}
use Rattle.commit_graph.specs.Standing.{CommitsStand}
use Rattle.plain_sessions.specs.Sessions.{Transaction}
use Rattle.plain_sessions.specs.SystemTables.{branch_row, committed, hash, parent_rows}
use Rattle.schema_model.specs.PlainCommits.{Commits, is_known}
use Rattle.session_state.specs.Transactions.{head_seen}
use Rattle.table_root.specs.declared.heads.BranchHead.{BranchHead}
use Rattle.tuple_codec.specs.Rows.{Cells}
use Rattle.tuple_codec.specs.declared.addresses.Address.{Address}

abbrev pub bytes_of : List Address → List (List ℕ)
bytes_of addresses = map (λ address. address.0) addresses

-- these are commits, which stand
pub record AreKnown (address : List ℕ → List ℕ) (chunks : Chunks) (commits : Commits) (ks : List (List ℕ)) : Type 0 where
  pub stand : CommitsStand address chunks commits
  pub known : list_all (is_known commits) ks ≡ true

-- some commits are
abbrev pub AreSomeKnown : (List ℕ → List ℕ) → Chunks → List (List ℕ) → Type 0
AreSomeKnown address chunks ks = (commits : Commits) × AreKnown address chunks commits ks

abbrev pub commit_row : Commits → List ℕ → Cells
commit_row commits k = hash k ∷ committed (commits k)

abbrev pub commit_rows : Commits → List (List ℕ) → List Cells
commit_rows commits ks = map (commit_row commits) ks

-- the rows of each commit's parents
abbrev pub all_parent_rows : Commits → List (List ℕ) → List Cells
all_parent_rows commits ks = flat_map (parent_rows commits) ks

abbrev pub heads_of : List BranchHead → List (List ℕ)
heads_of heads = map (λ (head : BranchHead). head.head.0) heads

abbrev pub branch_rows : Commits → List BranchHead → List Cells
branch_rows commits heads = map (λ (head : BranchHead). branch_row commits (head_seen head)) heads

-- the commits of a transaction stand, and so does its head among them
pub record IsAtHead (address : List ℕ → List ℕ) (chunks : Chunks) (k : List ℕ) (t : Transaction) : Type 0 where
  pub stand : CommitsStand address chunks t.commits
  pub known : is_known t.commits k ≡ true
  pub is : k ≡ t.own.head

abbrev pub IsSomeHead : (List ℕ → List ℕ) → Chunks → List ℕ → Type 0
IsSomeHead address chunks k = (t : Transaction) × IsAtHead address chunks k t

-- these are the heads of a transaction's branches at its start, and commits that stand
pub record AreHeadsOf (address : List ℕ → List ℕ) (chunks : Chunks) (heads : List BranchHead) (t : Transaction) : Type 0 where
  pub stand : CommitsStand address chunks t.commits
  pub are : map head_seen heads ≡ t.heads
  pub known : list_all (λ head. is_known t.commits head.commit) t.heads ≡ true

abbrev pub AreSomeHeads : (List ℕ → List ℕ) → Chunks → List BranchHead → Type 0
AreSomeHeads address chunks heads = (t : Transaction) × AreHeadsOf address chunks heads t
