-- What the law of the workload rests on: how its statements are read, what each makes of the table, and what a COMMIT makes of two.
use Rattle.std.specs.Prelude.{◌≡◌, ◌≢◌, ℕ, ◌<◌, List, [], ◌∷◌, map, Option, None, Some, Ok, length}
use Rattle.std.specs.List.{flat_map}
use Rattle.plain_sessions.specs.CommitRule.{decide}
use Rattle.plain_sessions.specs.Commands.{command}
use Rattle.plain_sessions.specs.Merging.{Answers}
use Rattle.plain_sessions.specs.Replies.{counted, done}
use Rattle.plain_sessions.specs.Sessions.{Session, Transaction, Variables}
use Rattle.plain_sessions.specs.Statements.{worked}
use Rattle.plain_sessions.specs.declared.commands.Work.TheVariants.{Change}
use Rattle.sql_ast.specs.declared.statements.Write.TheVariants as write
use Rattle.workload.specs.declared.steps.LoadStep.TheVariants.{Inserts, Updates}
use Rattle.workload.specs.declared.steps.LoadStep.{LoadStep}
use Rattle.workload.specs.declared.steps.Pair.{Pair}
use Rattle.workload.specs.Workload.{text_of, workload}
use Rattle.plain_sessions.specs.Runs.{commands_of}
use Rattle.load_laws.specs.Batches.{AreBatches, Batch, after_all, steps_in}
use Rattle.load_laws.specs.Loaded.{all_steps, last_rows}
use Rattle.load_laws.specs.Steps.{command_of, create, insert, update}
use Rattle.load_laws.specs.Tables.{ArePairRows, IsFree, IsSmall, changed, changes, put, rows_in, value_at, working}

-- ---- texts

-- numbers that are written as they are read
abbrev pub IsSmallStep : LoadStep → Type 0
IsSmallStep (Inserts pair) = IsSmall pair
IsSmallStep (Updates pair) = IsSmall pair
IsSmallStep step = Unit {0}

abbrev pub StepsAreRead : Type 0
StepsAreRead = (step : LoadStep) → IsSmallStep step → command (text_of step) ≡ command_of step

-- ---- the script

-- what each session asks: its batches, which write keys of its own, and leave each key with the value that is written last
pub record ScriptIsBatches (seed : ℕ) (batches : ℕ → List Batch) : Type 0 where
  pub asks : (place : ℕ) → place < 8 → commands_of command place (workload seed).lines ≡ map command_of (flat_map steps_in (batches place))
  pub keep : (place : ℕ) → place < 8 → AreBatches place (batches place)
  pub some : batches 0 ≢ []
  pub leave : flat_map (λ place. after_all (batches place) []) (0 ∷ 1 ∷ 2 ∷ 3 ∷ 4 ∷ 5 ∷ 6 ∷ 7 ∷ []) ≡ last_rows (all_steps seed)

pub record HasBatches (seed : ℕ) : Type 0 where
  pub batches : ℕ → List Batch
  pub are : ScriptIsBatches seed batches

abbrev pub ScriptsAreBatches : Type 0
ScriptsAreBatches = (seed : ℕ) → HasBatches seed

-- ---- statements

-- the table is made where there is none
abbrev pub TablesAreMade : Type 0
TablesAreMade = (session : Session) (t : Transaction) (head : List ℕ) (found : Option (List Pair)) → t.own ≡ working head found
    → worked session t (Change (write.Create create)) ≡ Ok (Answers done (working head (Some (rows_in found))))

abbrev pub RowsAreInserted : Type 0
RowsAreInserted = (session : Session) (t : Transaction) (head : List ℕ) (pair : Pair) (pairs : List Pair) → t.own ≡ working head (Some pairs)
    → ArePairRows pairs → IsSmall pair → IsFree pair.key pairs → length pairs < 4000
    → worked session t (Change (write.Insert (insert pair))) ≡ Ok (Answers (counted 1) (working head (Some (put pair pairs))))

abbrev pub RowsAreChanged : Type 0
RowsAreChanged = (session : Session) (t : Transaction) (head : List ℕ) (pair : Pair) (pairs : List Pair) → t.own ≡ working head (Some pairs)
    → ArePairRows pairs → IsSmall pair
    → worked session t (Change (write.Update (update pair))) ≡ Ok (Answers (counted (changes pair pairs)) (working head (Some (changed pair pairs))))

-- ---- COMMIT

-- at each key, what one side has is what the other and the start have, or the start and the other side have the same; and the result has the side that differs
pub data MeetsAt (key : ℕ) (start present own result : List Pair) : Type 0 where
  OwnMoved : value_at key present ≡ value_at key start → value_at key result ≡ value_at key own → MeetsAt key start present own result
  OwnStayed : value_at key own ≡ value_at key start → value_at key result ≡ value_at key present → MeetsAt key start present own result

-- a transaction's rows and those that others wrote since its start, under other keys
pub record MeetsPairs (start present : Option (List Pair)) (own result : List Pair) : Type 0 where
  -- a table that was there at the start is there still
  pub stays : start ≢ None → present ≢ None
  pub start_rows : ArePairRows (rows_in start)
  pub present_rows : ArePairRows (rows_in present)
  pub own_rows : ArePairRows own
  pub result_rows : ArePairRows result
  pub at_keys : (key : ℕ) → MeetsAt key (rows_in start) (rows_in present) own result

abbrev pub RowsMeet : Type 0
RowsMeet = (head : List ℕ) (start present : Option (List Pair)) (own result : List Pair) (variables : Variables) → MeetsPairs start present own result
    → decide (working head start) (working head present) (working head (Some own)) variables ≡ Ok (working head (Some result))
