-- The law of the workload.
use Rattle.std.specs.Prelude.{◌≡◌, ℕ, ℤ, Bool, true, List, [], ◌∷◌, None, Some, codes, length, not}
use Rattle.std.specs.List.{AllByRecursion, list_all}
use Rattle.std.specs.Option.{option_map}
use Rattle.script_text.specs.declared.replies.Reply.{Reply}
use Rattle.script_text.specs.declared.scripts.Moment.{Moment}
use Rattle.plain_sessions.specs.Commands.{command}
use Rattle.plain_sessions.specs.Records.{state_of}
use Rattle.plain_sessions.specs.Replies.{is_refusal}
use Rattle.plain_sessions.specs.Runs.{Runner, State, nothing_refused, plain_run}
use Rattle.workload.specs.Workload.{workload}
use Rattle.load_laws.specs.Loaded.{loaded}
use Rattle.load_laws.specs.Steps.{table_name}

abbrev pub is_answered : Reply → Bool
is_answered reply = not (is_refusal reply)

-- each session's statements are answered, and `main` works on the table with each key's last value, alone
pub record IsLoadedState (seed : ℕ) (state : State) : Type 0 where
  pub answered : AllByRecursion (λ (runner : Runner). list_all is_answered runner.replies ≡ true) state.runners
  pub table : option_map (λ branch. branch.working) (state_of state.shared.branches (codes "main"))
      ≡ Some (record { name = table_name; table = loaded seed } ∷ [])

-- whatever order the moments take
abbrev pub LoadEnds : Type 0
LoadEnds = (address : List ℕ → List ℕ) (epoch : ℤ) (seed : ℕ) (order : List Moment) (state : State)
    → plain_run command address (workload seed) order nothing_refused epoch ≡ Some state → IsLoadedState seed state

-- the table has fifty rows of each batch of each session
abbrev pub TableIsFull : Type 0
TableIsFull = (seed : ℕ) → length (loaded seed).rows ≡ 4000
