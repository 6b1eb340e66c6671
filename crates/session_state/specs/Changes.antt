-- What a decision's change stands for, and what it leaves of the shared state.
use Rattle.std.specs.Prelude.{◌≡◌, ℕ, ◌≤◌, Bool, true, List, [], ◌∷◌, ◌++◌, length, Some}
use Rattle.std.specs.List.{list_all}
use Rattle.tuple_codec.specs.declared.records.BranchRecord.{BranchRecord}
use Rattle.schema_model.specs.Limits.{most_branches}
use Rattle.schema_model.specs.PlainCommits.{Commits}
use Rattle.schema_model.specs.PlainTables.{rises}
use Rattle.chunk_store.specs.Chunks.{AreNamed, Chunk, IsSingle, chunk_bytes}
use Rattle.script_text.specs.declared.outputs.BranchLine.{BranchLine}
use Rattle.script_text.specs.declared.scripts.Moment.{Moment}
use Rattle.std.specs.Ordering.{nat_cmp}
use Rattle.std.specs.Cmp.Lexicographic.{slice_cmp}
use Rattle.table_root.specs.Names.{is_branch_name}
use Rattle.plain_sessions.specs.Branching.{is_branch_there}
use Rattle.plain_sessions.specs.Moments.{Change, commits_with}
use Rattle.plain_sessions.specs.Records.{Branch, Shared}
use Rattle.session_state.specs.Commits.{CommitsAreThere}
use Rattle.session_state.specs.Records.{RecordStands}

-- a change is the record's: what it names stands in a store and what is sealed beside it, and the commit that it makes is the only one more
pub record ChangeStands (address : List ℕ → List ℕ) (store sealed : List Chunk) (commits : Commits) (rec : BranchRecord) (change : Change) : Type 0 where
  pub after : Commits
  pub is : commits_with address change.made commits ≡ Some after
  pub stands : RecordStands address (chunk_bytes (store ++ sealed)) after rec change.becomes
  pub commits_after : CommitsAreThere address (chunk_bytes (store ++ sealed)) after
  pub named : AreNamed address sealed

-- ---- the shared state

-- what the shared database has: its branches, the branch on which each session is, how many statements each has, the moments so far, and its chunks
pub record Parts : Type 0 where
  pub branches : List BranchLine
  pub places : List (List ℕ)
  pub numbers : List ℕ
  pub moments : List Moment
  pub chunks : List Chunk

-- two lists, item by item
abbrev pub Paired : {A B : Type 0} → (A → B → Type 0) → List A → List B → Type 0
Paired P [] [] = Unit {0}
Paired P (x ∷ xs) (y ∷ ys) = P x y × Paired P xs ys
Paired P xs ys = ⊥

pub record BranchStands (address : List ℕ → List ℕ) (chunks : List Chunk) (commits : Commits) (line : BranchLine) (branch : Branch) : Type 0 where
  pub name : line.name ≡ branch.name
  pub form : is_branch_name line.name ≡ true
  pub stands : RecordStands address (chunk_bytes chunks) commits line.rec branch.state

abbrev pub lines_rise : List BranchLine → Bool
lines_rise lines = rises (λ a b. slice_cmp nat_cmp a.name b.name) lines

pub record StateStands (address : List ℕ → List ℕ) (parts : Parts) (shared : Shared) : Type 0 where
  pub branches : Paired (BranchStands address parts.chunks shared.commits) parts.branches shared.branches
  pub rise : lines_rise parts.branches ≡ true
  pub few : length parts.branches ≤ most_branches
  pub places : parts.places ≡ shared.places
  pub placed : list_all (is_branch_there shared) shared.places ≡ true
  pub commits : CommitsAreThere address (chunk_bytes parts.chunks) shared.commits
  pub named : AreNamed address parts.chunks
  pub single : IsSingle parts.chunks
