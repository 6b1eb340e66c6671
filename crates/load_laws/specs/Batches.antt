-- A session's batches, each a transaction, and the rows that they leave.
use Rattle.std.specs.Prelude.{◌≡◌, ◌≢◌, ℕ, ◌+◌, ◌*◌, ◌<◌, ◌≤◌, true, Bool, if◌then◌else◌, List, [], ◌∷◌, ◌++◌, length, map}
use Rattle.std.specs.List.{AllByRecursion, flat_map}
use Rattle.workload.specs.declared.steps.LoadStep.TheVariants.{Begins, Commits, Inserts, Makes, Updates}
use Rattle.workload.specs.declared.steps.LoadStep.{LoadStep}
use Rattle.workload.specs.declared.steps.Pair.{Pair}
use Rattle.load_laws.specs.Tables.{IsSmall, PairsRise, changed}

pub record Batch : Type 0 where
  -- makes the table where there is none
  pub makes : Bool
  pub rows : List Pair
  pub changes : List Pair

abbrev pub opening_steps : Bool → List LoadStep
opening_steps makes = if makes then Begins ∷ Makes ∷ [] else Begins ∷ []

abbrev pub steps_in : Batch → List LoadStep
steps_in batch = opening_steps batch.makes ++ map Inserts batch.rows ++ map Updates batch.changes ++ Commits ∷ []

-- ---- the rows that batches leave

abbrev pub all_changed : List Pair → List Pair → List Pair
all_changed [] pairs = pairs
all_changed (change ∷ changes) pairs = all_changed changes (changed change pairs)

-- of a session's own rows before it
abbrev pub after : Batch → List Pair → List Pair
after batch pairs = all_changed batch.changes (pairs ++ batch.rows)

abbrev pub after_all : List Batch → List Pair → List Pair
after_all [] pairs = pairs
after_all (batch ∷ batches) pairs = after_all batches (after batch pairs)

abbrev pub rows_of : List Batch → List Pair
rows_of batches = flat_map (λ batch. batch.rows) batches

abbrev pub changes_of : List Batch → List Pair
changes_of batches = flat_map (λ batch. batch.changes) batches

-- ---- what the batches of a session keep

-- the keys of the session at this place
pub record IsOwn (place : ℕ) (pair : Pair) : Type 0 where
  pub from : 1000000 * place ≤ pair.key
  pub to : pair.key < 1000000 * place + 1000000

abbrev pub BeginsByMaking : List Batch → Type 0
BeginsByMaking [] = Unit {0}
BeginsByMaking (batch ∷ batches) = batch.makes ≡ true

pub record AreBatches (place : ℕ) (batches : List Batch) : Type 0 where
  pub rising : PairsRise (rows_of batches)
  pub small : AllByRecursion IsSmall (rows_of batches)
  pub small_changes : AllByRecursion IsSmall (changes_of batches)
  pub own : AllByRecursion (IsOwn place) (rows_of batches)
  pub own_changes : AllByRecursion (IsOwn place) (changes_of batches)
  pub few : length (rows_of batches) ≤ 500
  pub begin : BeginsByMaking batches
  pub full : AllByRecursion (λ (batch : Batch). batch.rows ≢ []) batches
