-- How a call of the program ends.
use Rattle.std.specs.Prelude.{◌≡◌, ◌≢◌, ◌⊎◌, ℕ, ◌<◌, ◌≤◌, Bool, true, List, length, Option, Some, None}
use Rattle.std.specs.Io.KnownBytes.{Appends}
use Rattle.wire_io.specs.Causes.{Rose}
use Rattle.wire_io.specs.Moves.{AppendsFront, LosesAtMost}
use Rattle.script_text.specs.declared.faults.BadScript.{BadScript}
use Rattle.program_run.specs.Headline.{WritesAnswer, most_taken, usage_line}
use Rattle.program_run.specs.Loads.{LoadFallsShort, WritesLoad, WritesOpeningClash}
use Rattle.program_run.specs.Stops.{FallsShort, IsTold, StopsThere, WritesCollision, WritesFault, WritesStop}
use Rattle.program_run.specs.Words.{is_given, task_asked}
use Rattle.program_run.specs.declared.words.LoadRun.{LoadRun}
use Rattle.program_run.specs.declared.words.ScriptRun.{ScriptRun}
use Rattle.program_run.specs.declared.words.Task.{Task}
use Rattle.program_run.specs.declared.words.Task.TheVariants as task
use Rattle.script_text.specs.declared.status.Status.{Status}
use Rattle.script_text.specs.declared.status.Status.TheVariants as status

-- what a kind of source tells: the bytes left, the faults counted, and whether its reads never fail
pub record SourceTells (S : Type 0) : Type 0 where
  pub left : S → Option (List ℕ)
  pub faults : S → ℕ
  pub steady : S → Bool

-- what a kind of sink tells: the bytes held, the faults counted, and for how many bytes it promises room
pub record SinkTells (K : Type 0) : Type 0 where
  pub held : K → Option (List ℕ)
  pub faults : K → ℕ
  pub room : K → ℕ

-- A call whose words ask for no run ended so: with the usage line, before anything was read.
pub record IsUsage {S K : Type 0} (sink : SinkTells K) (input read : S) (output wrote : K) (result : Status) : Type 0 where
  pub ends : (result ≡ status.Usage) ⊎ (result ≡ status.Write) ⊎ (result ≡ status.Memory)
  pub untouched : read ≡ input
  pub usage : result ≡ status.Usage → Appends (sink.held output) (sink.held wrote) usage_line
  pub write : result ≡ status.Write → Rose (sink.faults output) (sink.faults wrote)
  pub part : result ≡ status.Write → AppendsFront (sink.held output) (sink.held wrote) usage_line
  pub wider : result ≡ status.Write → sink.room output < length usage_line
  pub memory : result ≡ status.Memory → wrote ≡ output
  pub counts : sink.faults output ≤ sink.faults wrote

-- A run of a script that was asked for ended so, over a source and a sink that were these before it and are these after it.
pub record IsRun {S K : Type 0} (address : List ℕ → List ℕ) (asked : ScriptRun) (source : SourceTells S) (sink : SinkTells K) (input read : S) (output wrote : K) (result : Status) : Type 0 where
  -- the whole input was read, and what was appended is the text of the plain machine's run of its script
  pub done : result ≡ status.Done → WritesAnswer address asked (source.left input) (source.left read) (sink.held output) (sink.held wrote)
  pub usage : result ≢ status.Usage
  -- a script that breaks a rule is told by its first line that does, and the least rule
  pub script : result ≡ status.Script → WritesFault asked (source.left input) (sink.held output) (sink.held wrote)
  pub faulty : (bad : BadScript) → IsTold (source.left input) (is_given asked.order) bad → StopsThere result
  -- a given order that can't be followed is told by the first such item
  pub order : result ≡ status.Order → WritesStop address asked (source.left input) (sink.held output) (sink.held wrote)
  -- the two chunks that a database is opened with, where they have one address
  pub collision : result ≡ status.Collision → WritesCollision address asked (source.left input) (sink.held output) (sink.held wrote)
  -- the source or the sink failed, and counted it in this call
  pub failed : result ≡ status.Read → Rose (source.faults input) (source.faults read) × (wrote ≡ output)
  pub steady : source.steady input ≡ true → result ≢ status.Read
  pub write : result ≡ status.Write → Rose (sink.faults output) (sink.faults wrote)
  pub part : result ≡ status.Write → FallsShort address asked (source.left input) (sink.held output) (sink.held wrote) (sink.room output)
  pub memory : result ≡ status.Memory → wrote ≡ output
  pub taken : LosesAtMost most_taken (source.left input) (source.left read)
  pub counts : (source.faults input ≤ source.faults read) × (sink.faults output ≤ sink.faults wrote)

-- A run of a workload that was asked for ended so: nothing was read.
pub record IsLoadRun {S K : Type 0} (address : List ℕ → List ℕ) (asked : LoadRun) (sink : SinkTells K) (input read : S) (output wrote : K) (result : Status) : Type 0 where
  pub ends : (result ≡ status.Done) ⊎ (result ≡ status.Collision) ⊎ (result ≡ status.Write) ⊎ (result ≡ status.Memory)
  pub untouched : read ≡ input
  -- what was appended are the lines of the plain machine's run of the seed's workload
  pub done : result ≡ status.Done → WritesLoad address asked (sink.held output) (sink.held wrote)
  -- the two chunks that a database is opened with, where they have one address
  pub collision : result ≡ status.Collision → WritesOpeningClash address asked.epoch (sink.held output) (sink.held wrote)
  pub write : result ≡ status.Write → Rose (sink.faults output) (sink.faults wrote)
  pub part : result ≡ status.Write → LoadFallsShort address asked (sink.held output) (sink.held wrote) (sink.room output)
  pub memory : result ≡ status.Memory → wrote ≡ output
  pub counts : sink.faults output ≤ sink.faults wrote

-- by what the words ask to be run, if they ask for anything
abbrev pub EndsBy : {S K : Type 0} → Option Task → (List ℕ → List ℕ) → SourceTells S → SinkTells K → S → S → K → K → Status → Type 0
EndsBy None address source sink input read output wrote result = IsUsage sink input read output wrote result
EndsBy (Some (task.Script asked)) address source sink input read output wrote result = IsRun address asked source sink input read output wrote result
EndsBy (Some (task.Load asked)) address source sink input read output wrote result = IsLoadRun address asked sink input read output wrote result

-- A call with these words ended so.
abbrev pub IsEnding : {S K : Type 0} → (List ℕ → List ℕ) → List (List ℕ) → SourceTells S → SinkTells K → S → S → K → K → Status → Type 0
IsEnding address words = EndsBy (task_asked words) address
