-- What a run of the workload comes to, and what is written of it.
use Rattle.std.specs.Prelude.{◌≡◌, ℕ, ℤ, ◌==◌, Bool, false, List, [], ◌∷◌, ◌++◌, bytes_eq, codes, is_some, length, map, sum, Some, if◌then◌else◌}
use Rattle.std.specs.Fmt.{decimal}
use Rattle.std.specs.List.{filter, find, list_any}
use Rattle.std.specs.Option.{option_map_or}
use Rattle.tuple_codec.specs.AddressTexts.{address_text}
use Rattle.schema_model.specs.PlainTables.{NamedTable, PlainDatabase}
use Rattle.schema_model.specs.WrittenForms.{database_address}
use Rattle.script_text.specs.Output.{all_refused, newline, order_line, shortage, shortages_in}
use Rattle.script_text.specs.declared.outputs.BranchLine.{BranchLine}
use Rattle.script_text.specs.declared.outputs.RunText.{RunText}
use Rattle.script_text.specs.declared.replies.Reply.{Reply}
use Rattle.plain_sessions.specs.Commands.{command}
use Rattle.plain_sessions.specs.Output.{shown}
use Rattle.plain_sessions.specs.Records.{Shared, state_of}
use Rattle.plain_sessions.specs.Replies.{is_refusal}
use Rattle.plain_sessions.specs.Runs.{State, plain_run}
use Rattle.load_laws.specs.Loaded.{loaded}
use Rattle.workload.specs.Workload.{workload}

-- ---- the three numbers that depend on the run

-- how many statements were refused
abbrev pub refusals_in : List (List Reply) → ℕ
refusals_in replies = sum (map (λ session. length (filter is_refusal session)) replies)

abbrev pub is_load_table : NamedTable → Bool
is_load_table named = bytes_eq named.name (codes "load_rows")

abbrev pub load_rows_in : PlainDatabase → ℕ
load_rows_in tables = option_map_or (λ named. length named.table.rows) (find is_load_table tables) 0

-- how many rows `load_rows` has on `main`
abbrev pub rows_in : Shared → ℕ
rows_in shared = option_map_or (λ state. load_rows_in state.working) (state_of shared.branches (codes "main")) 0

abbrev pub is_main : BranchLine → Bool
is_main line = bytes_eq line.name (codes "main")

-- the address of what `main` is working on
abbrev pub working_in : List BranchLine → List ℕ
working_in lines = option_map_or (λ line. address_text line.rec.working.0) (find is_main lines) []

-- ---- the text

-- where a statement was refused: the order of moments, and every statement that no rule refused
abbrev pub trouble : RunText → List ℕ
trouble run = order_line run.names run.order ++ codes "refused" ++ all_refused run.names run.replies ++ newline

abbrev pub trouble_of : ℕ → RunText → List ℕ
trouble_of refusals run = if refusals == 0 then [] else trouble run

-- the lines that end with numbers, and what stands before the address
abbrev pub number_lines : ℕ → ℕ → ℕ → List ℕ
number_lines seed refusals rows =
    codes "load " ++ decimal seed ++ codes "\nsessions 8\nstatements 4968\nrefused " ++ decimal refusals ++ codes "\nrows " ++ decimal rows ++ codes "\nworking "

abbrev pub load_text : ℕ → RunText → ℕ → List ℕ
load_text seed run rows =
    number_lines seed (refusals_in run.replies) rows ++ working_in run.branches ++ newline ++ trouble_of (refusals_in run.replies) run

-- ---- the run

-- every row is there, and `main` works on the table with each key's last value alone
pub record IsFull (address : List ℕ → List ℕ) (seed : ℕ) (run : RunText) (rows : ℕ) : Type 0 where
  pub rows_are : rows ≡ 4000
  pub works : working_in run.branches ≡ address_text (database_address address (record { name = codes "load_rows"; table = loaded seed } ∷ []))

-- a statement found no memory, or met two byte strings of one address
abbrev pub is_short : Reply → Bool
is_short reply = is_some (shortage reply)

abbrev pub some_are_short : List (List Reply) → Bool
some_are_short replies = list_any (λ session. list_any is_short session) replies

-- the run is the plain machine's of the workload, along its own order and with the wants of memory and collisions that it tells, so many rows are there
-- at its end; no statement is refused unless one found no memory or met a collision, and where none is refused, every row is there
pub record IsLoaded (address : List ℕ → List ℕ) (seed : ℕ) (epoch : ℤ) (run : RunText) (rows : ℕ) : Type 0 where
  pub state : State
  pub ran : plain_run command address (workload seed) run.order (shortages_in run.replies) epoch ≡ Some state
  pub shows : shown address (workload seed) run.order state ≡ run
  pub rows_are : rows ≡ rows_in state.shared
  pub caused : some_are_short run.replies ≡ false → refusals_in run.replies ≡ 0
  pub full : refusals_in run.replies ≡ 0 → IsFull address seed run rows
