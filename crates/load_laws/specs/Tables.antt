-- Rows of the workload's table while its sessions write them, and the databases that hold them.
use Rattle.std.specs.Prelude.{◌≢◌, ℕ, ◌<◌, ◌≤◌, ◌==◌, nat_lt, Bool, ◌&&◌, not, if◌then◌else◌, List, [], ◌∷◌, map, length, Option, None, Some}
use Rattle.std.specs.List.{AllByRecursion, count_by}
use Rattle.schema_model.specs.PlainTables.{PlainDatabase}
use Rattle.plain_sessions.specs.Records.{BranchState}
use Rattle.workload.specs.declared.steps.Pair.{Pair}
use Rattle.load_laws.specs.Loaded.{load_table}
use Rattle.load_laws.specs.Steps.{table_name}

-- ---- rows

-- the keys rise
abbrev pub PairsRise : List Pair → Type 0
PairsRise [] = Unit {0}
PairsRise (pair ∷ pairs) = AllByRecursion (λ (later : Pair). pair.key < later.key) pairs × PairsRise pairs

-- numbers that fit the columns
pub record IsSmall (pair : Pair) : Type 0 where
  pub key_small : pair.key < 10000000
  pub value_small : pair.value < 1000

-- rows that the workload may have
pub record ArePairRows (pairs : List Pair) : Type 0 where
  pub rising : PairsRise pairs
  pub small : AllByRecursion IsSmall pairs
  pub few : length pairs ≤ 4000

-- no row has this key
abbrev pub IsFree : ℕ → List Pair → Type 0
IsFree key pairs = AllByRecursion (λ (pair : Pair). pair.key ≢ key) pairs

-- a row more, in its place
abbrev pub put : Pair → List Pair → List Pair
put pair [] = pair ∷ []
put pair (other ∷ others) = if nat_lt pair.key other.key then pair ∷ other ∷ others else other ∷ put pair others

-- a new value under a key
abbrev pub changed_one : Pair → Pair → Pair
changed_one pair other = if other.key == pair.key then pair else other

abbrev pub changed : Pair → List Pair → List Pair
changed pair pairs = map (changed_one pair) pairs

-- how many rows get another value
abbrev pub is_other : Pair → Pair → Bool
is_other pair other = other.key == pair.key && not (other.value == pair.value)

abbrev pub changes : Pair → List Pair → ℕ
changes pair pairs = count_by (is_other pair) pairs

-- the value under a key
abbrev pub value_at : ℕ → List Pair → Option ℕ
value_at key [] = None
value_at key (pair ∷ pairs) = if pair.key == key then Some pair.value else value_at key pairs

-- ---- databases

-- no table yet, or the table with these rows
abbrev pub holding : Option (List Pair) → PlainDatabase
holding None = []
holding (Some pairs) = record { name = table_name; table = load_table pairs } ∷ []

abbrev pub rows_in : Option (List Pair) → List Pair
rows_in None = []
rows_in (Some pairs) = pairs

-- a branch at a commit without tables, whose working database holds this
abbrev pub working : List ℕ → Option (List Pair) → BranchState
working head found = record { head = head; working = holding found; staged = []; merging = None }
