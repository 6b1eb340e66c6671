-- What the words of the command line ask for.
use Rattle.std.specs.Prelude.{ℕ, ℤ, pos, Bool, true, false, nat_lt, ◌^◌, if◌then◌else◌, List, [], ◌∷◌, map, codes, String, string_bytes, Option, Some, None, option_and_then, option_map}
use Rattle.std.specs.Str.{bytes_eq}
use Rattle.clap.specs.Words.{App, Row, Rule, Text, fault_of, first_of, matches_of, new_rule}
use Rattle.clap.specs.Simple.{new_shape}
use Rattle.clap.specs.Walk.{is_empty}
use Rattle.script_text.specs.Numerals.{number}
use Rattle.program_run.specs.declared.words.Invocation.{Invocation}
use Rattle.program_run.specs.declared.words.Mode.{Mode}
use Rattle.program_run.specs.declared.words.Mode.TheVariants.{Ordered, Threads, Replay, Load}
use Rattle.program_run.specs.declared.words.MomentOrder.{MomentOrder}
use Rattle.program_run.specs.declared.words.MomentOrder.TheVariants.{Given, OfLines, OfThreads}
use Rattle.program_run.specs.declared.words.Task.{Task}
use Rattle.program_run.specs.declared.words.Task.TheVariants as task

-- the bytes of the words
abbrev pub spelled : {A : Type 0} → List (String A) → List Text
spelled words = map (λ word. string_bytes word) words

-- ---- how the words are cut: as those of a command with a mode and two options that take a value

abbrev pub mode_rule : Rule
mode_rule = record (new_rule (codes "mode")) { required = true }

abbrev pub option_rule : Text → Rule
option_rule name = record (new_rule name) { long = Some name }

abbrev pub line : App
line = record {
  top = record (new_shape (codes "doltrun")) {
    rules = mode_rule ∷ option_rule (codes "epoch") ∷ option_rule (codes "seed") ∷ [];
    no_binary_name = true;
    disable_help_flag = true;
    disable_version_flag = true;
  };
  subs = [];
}

-- ---- what they ask for

abbrev pub mode_named : Text → Option Mode
mode_named text = if bytes_eq text (codes "ordered") then Some Ordered
    else (if bytes_eq text (codes "threads") then Some Threads
    else (if bytes_eq text (codes "replay") then Some Replay
    else (if bytes_eq text (codes "load") then Some Load else None)))

-- an epoch is a number below 2^63
abbrev pub epoch_named : Text → Option ℤ
epoch_named text = option_and_then (λ epoch. if nat_lt epoch (2 ^ 63) then Some (pos epoch) else None) (number text)

abbrev pub epoch_of : Option Text → Option ℤ
epoch_of None = Some (pos 0)
epoch_of (Some text) = epoch_named text

-- `load` has a seed, and no other mode has one
abbrev pub seed_of : Mode → Option Text → Option (Option ℕ)
seed_of Load None = None
seed_of Load (Some text) = option_map (λ seed. Some seed) (number text)
seed_of _ None = Some None
seed_of _ (Some text) = None

abbrev pub form_of : Mode → Option Text → Option Text → Option Invocation
form_of mode epoch seed = option_and_then (λ date. option_map (λ given. record { mode = mode; epoch = date; seed = given }) (seed_of mode seed)) (epoch_of epoch)

-- of the mode's word, and the values of the two options
abbrev pub form_named : Option Text → Option Text → Option Text → Option Invocation
form_named mode epoch seed = option_and_then (λ named. form_of named epoch seed) (option_and_then mode_named mode)

abbrev pub form_in : List Row → Option Invocation
form_in rows = form_named (first_of (codes "mode") rows) (first_of (codes "epoch") rows) (first_of (codes "seed") rows)

-- the form that the words are, if the command takes them
abbrev pub form : List Text → Option Invocation
form words = if is_empty (fault_of line words) then form_in (matches_of line words) else None

-- whether the script gives the order of its moments
abbrev pub is_given : MomentOrder → Bool
is_given OfLines = false
is_given Given = true
is_given OfThreads = false

-- a run of a script, or of the workload of a seed, in this mode
abbrev pub task_of : Mode → ℤ → Option ℕ → Option Task
task_of Ordered epoch seed = Some (task.Script (record { order = OfLines; epoch = epoch }))
task_of Threads epoch seed = Some (task.Script (record { order = OfThreads; epoch = epoch }))
task_of Replay epoch seed = Some (task.Script (record { order = Given; epoch = epoch }))
task_of Load epoch seed = option_map (λ given. task.Load (record { seed = given; epoch = epoch })) seed

-- the date that its commits bear
abbrev pub task_epoch : Task → ℤ
task_epoch (task.Script asked) = asked.epoch
task_epoch (task.Load asked) = asked.epoch

-- what the words ask to be run
abbrev pub task_asked : List Text → Option Task
task_asked words = option_and_then (λ (asked : Invocation). task_of asked.mode asked.epoch asked.seed) (form words)
