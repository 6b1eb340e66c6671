-- What sessions share: branches with their records, all commits, and the branch on which each session is.
use Rattle.std.specs.Prelude.{ℕ, ◌==◌, ℤ, suc, Bool, ◌&&◌, not, if◌then◌else◌, List, [], ◌∷◌, map, filter, codes, Option, None, Some, bytes_eq}
use Rattle.std.specs.List.{find}
use Rattle.std.specs.Option.{option_map}
use Rattle.std.specs.Ordering.{nat_cmp, int_eq}
use Rattle.std.specs.declared.cmp.Ordering.{Ordering}
use Rattle.std.specs.Cmp.Lexicographic.{pointwise, slice_cmp}
use Rattle.schema_model.specs.PlainCommits.{Commits, PlainCommit, commit_address, greatest, height_of, with_commit}
use Rattle.schema_model.specs.PlainTables.{PlainDatabase}
use Rattle.schema_model.specs.Sameness.{is_same_database, is_same_option}
use Rattle.plain_sql.specs.Lists.{in_order}

-- ---- records

-- a branch's head, its working and its staged database, and the commit that is being merged
pub record BranchState : Type 0 where
  pub head : List ℕ
  pub working : PlainDatabase
  pub staged : PlainDatabase
  pub merging : Option (List ℕ)

-- the same contents in each part
unfoldable pub is_same_state : BranchState → BranchState → Bool
is_same_state a b =
    bytes_eq a.head b.head
    && is_same_database a.working b.working
    && is_same_database a.staged b.staged
    && is_same_option bytes_eq a.merging b.merging

-- at a commit with this database: nothing is changed, staged or being merged
abbrev pub clean_at : List ℕ → PlainDatabase → BranchState
clean_at head database = record { head = head; working = database; staged = database; merging = None }

-- ---- branches, by the bytes of their names

pub record Branch : Type 0 where
  pub name : List ℕ
  pub state : BranchState

abbrev pub is_branch : List ℕ → Branch → Bool
is_branch name branch = bytes_eq branch.name name

abbrev pub branch_cmp : Branch → Branch → Ordering
branch_cmp a b = slice_cmp nat_cmp a.name b.name

abbrev pub state_of : List Branch → List ℕ → Option BranchState
state_of branches name = option_map (λ branch. branch.state) (find (is_branch name) branches)

abbrev pub without_branch : List ℕ → List Branch → List Branch
without_branch name branches = filter (λ branch. not (is_branch name branch)) branches

abbrev pub with_branch : List ℕ → BranchState → List Branch → List Branch
with_branch name state branches = in_order branch_cmp (record { name = name; state = state } ∷ without_branch name branches)

-- ---- commits

abbrev pub database_in : Option PlainCommit → PlainDatabase
database_in (Some commit) = commit.database
database_in None = []

-- the database of a commit; without tables where there is no such commit
abbrev pub root_of : Commits → List ℕ → PlainDatabase
root_of commits k = database_in (commits k)

abbrev pub is_same_commit : PlainCommit → PlainCommit → Bool
is_same_commit a b =
    is_same_database a.database b.database
    && pointwise bytes_eq a.parents b.parents
    && a.height == b.height
    && int_eq a.date b.date
    && bytes_eq a.committer b.committer
    && bytes_eq a.message b.message

-- a commit's height is 1 plus the greatest of its parents'
abbrev pub commit_on : Commits → ℤ → List ℕ → PlainDatabase → List (List ℕ) → List ℕ → PlainCommit
commit_on commits epoch committer database parents message = record {
  database = database;
  parents = parents;
  height = suc (greatest (map (height_of commits) parents));
  date = epoch;
  committer = committer;
  message = message;
}

abbrev pub added_at : List ℕ → PlainCommit → Option PlainCommit → Commits → Option Commits
added_at k commit None commits = Some (with_commit k commit commits)
added_at k commit (Some other) commits = if is_same_commit commit other then Some commits else None

-- with one commit more; none where another commit has its address
abbrev pub with_new_commit : (List ℕ → List ℕ) → PlainCommit → Commits → Option Commits
with_new_commit address commit commits = let k = commit_address address commit in added_at k commit (commits k) commits

-- ---- the shared state

pub record Shared : Type 0 where
  pub branches : List Branch
  pub commits : Commits
  -- by session
  pub places : List (List ℕ)

-- the commit that every history begins with
abbrev pub first_commit : ℤ → PlainCommit
first_commit epoch = record { database = []; parents = []; height = 1; date = epoch; committer = codes "doltrun"; message = codes "Initialize data repository" }

abbrev pub no_commits : Commits
no_commits k = None

-- the branch `main` at the first commit, and all sessions on it
abbrev pub opening : (List ℕ → List ℕ) → ℤ → List (List ℕ) → Shared
opening address epoch names =
    let first = commit_address address (first_commit epoch) in
    record {
      branches = record { name = codes "main"; state = clean_at first [] } ∷ [];
      commits = with_commit first (first_commit epoch) no_commits;
      places = map (λ name. codes "main") names;
    }
