-- What the program writes where it doesn't answer.
use Rattle.std.specs.Prelude.{◌≡◌, ◌⊎◌, ℕ, ◌<◌, Bool, List, length, Option, Some, None, Result, Ok, Err}
use Rattle.std.specs.Io.KnownBytes.{Appends}
use Rattle.script_text.specs.Input.{script}
use Rattle.script_text.specs.Output.{stop_text}
use Rattle.script_text.specs.declared.faults.BadScript.{BadScript}
use Rattle.chunk_store.specs.declared.faults.Clash.{Clash}
use Rattle.script_text.specs.Shown.{IsSameStop, IsShownStop}
use Rattle.script_text.specs.declared.outputs.StopText.{StopText}
use Rattle.script_text.specs.declared.scripts.Script.{Script}
use Rattle.run_laws.specs.Stops.{IsStoppedAt}
use Rattle.wire_io.specs.Moves.{AppendsFront}
use Rattle.plain_sessions.specs.Opening.{IsOpeningClash}
use Rattle.script_text.specs.Lines.{collision_line, fault_line}
use Rattle.program_run.specs.Headline.{HasScript, IsAnswer}
use Rattle.program_run.specs.declared.answering.NoAnswer.{NoAnswer}
use Rattle.program_run.specs.declared.answering.NoAnswer.TheVariants as fault
use Rattle.program_run.specs.Words.{is_given}
use Rattle.program_run.specs.declared.words.MomentOrder.TheVariants.{Given}
use Rattle.program_run.specs.declared.words.ScriptRun.{ScriptRun}
use Rattle.script_text.specs.declared.status.Status.{Status}
use Rattle.script_text.specs.declared.status.Status.TheVariants as status

-- the first line of the input that breaks a rule, and the rule, were appended
pub record WritesFault (asked : ScriptRun) (told old new : Option (List ℕ)) : Type 0 where
  pub bad : BadScript
  pub breaks : HasScript told (is_given asked.order) (Err bad)
  pub writes : Appends old new (fault_line bad)

-- the script was read, and the two chunks that a database is opened with, which have one address, were appended
pub record WritesCollision (address : List ℕ → List ℕ) (asked : ScriptRun) (told old new : Option (List ℕ)) : Type 0 where
  pub script : Script
  pub reads : HasScript told (is_given asked.order) (Ok script)
  pub clash : Clash
  pub opens : IsOpeningClash address asked.epoch clash
  pub writes : Appends old new (collision_line clash)

-- the script's order was followed up to an item that can't be followed, or to its end with a moment left, and the line of that item was appended with
-- what was answered before it by no rule; the plain machine steps along the items before it with these answers, and can't go on there; and whatever
-- stop of these sessions has this line is at the same item, with the same wants of memory and collisions
pub record WritesStop (address : List ℕ → List ℕ) (asked : ScriptRun) (told old new : Option (List ℕ)) : Type 0 where
  pub in_order : asked.order ≡ Given
  pub script : Script
  pub reads : HasScript told (is_given asked.order) (Ok script)
  pub stop : StopText
  pub stops : IsStoppedAt address asked.epoch script stop
  pub alone : (other : StopText) → IsShownStop other → other.names ≡ script.names → stop_text other ≡ stop_text stop → IsSameStop stop other
  pub writes : Appends old new (stop_text stop)

-- a text that is written whole where the sink doesn't fail
pub data IsToWrite (address : List ℕ → List ℕ) (asked : ScriptRun) (told : Option (List ℕ)) (written : List ℕ) : Type 0 where
  Answers : (read : Result Script BadScript) → HasScript told (is_given asked.order) read → IsAnswer address asked read written → IsToWrite address asked told written
  Faults : (bad : BadScript) → HasScript told (is_given asked.order) (Err bad) → written ≡ fault_line bad → IsToWrite address asked told written
  Stops : (script : Script) (stop : StopText) → HasScript told (is_given asked.order) (Ok script) → IsStoppedAt address asked.epoch script stop → written ≡ stop_text stop → IsToWrite address asked told written
  Collides : (script : Script) (clash : Clash) → HasScript told (is_given asked.order) (Ok script) → IsOpeningClash address asked.epoch clash → written ≡ collision_line clash → IsToWrite address asked told written

-- a part of such a text was appended, and the sink promised no room for the whole of it
pub record FallsShort (address : List ℕ → List ℕ) (asked : ScriptRun) (told old new : Option (List ℕ)) (room : ℕ) : Type 0 where
  pub written : List ℕ
  pub wanted : IsToWrite address asked told written
  pub wider : room < length written
  pub writes : AppendsFront old new written

-- the script of these bytes gives an order that can't be followed, and this is the text that tells it
pub record StopsAt (address : List ℕ → List ℕ) (asked : ScriptRun) (bytes written : List ℕ) : Type 0 where
  pub in_order : asked.order ≡ Given
  pub read : Script
  pub reads : script bytes (is_given asked.order) ≡ Ok read
  pub stop : StopText
  pub stops : IsStoppedAt address asked.epoch read stop
  pub alone : (other : StopText) → IsShownStop other → other.names ≡ read.names → stop_text other ≡ stop_text stop → IsSameStop stop other
  pub is : written ≡ stop_text stop

-- what bytes come to: the answer to their script, or the fault of it
abbrev pub Comes : (List ℕ → List ℕ) → ScriptRun → List ℕ → Result (List ℕ) NoAnswer → Type 0
Comes address asked bytes (Ok written) = IsAnswer address asked (script bytes (is_given asked.order)) written
Comes address asked bytes (Err fault.Memory) = Unit {0}
Comes address asked bytes (Err (fault.Bad bad)) = script bytes (is_given asked.order) ≡ Err bad
Comes address asked bytes (Err (fault.Stopped written)) = StopsAt address asked bytes written
Comes address asked bytes (Err (fault.Collision clash)) = ((read : Script) × (script bytes (is_given asked.order) ≡ Ok read)) × IsOpeningClash address asked.epoch clash

-- the told input has a line that breaks a rule
abbrev pub IsTold : Option (List ℕ) → Bool → BadScript → Type 0
IsTold None with_order bad = ⊥
IsTold (Some input) with_order bad = script input with_order ≡ Err bad

-- none of the statuses of an input that has no fault
abbrev pub StopsThere : Status → Type 0
StopsThere result = (result ≡ status.Script) ⊎ (result ≡ status.Read) ⊎ (result ≡ status.Write) ⊎ (result ≡ status.Memory)

-- the answer to the script of these bytes was appended
pub record AnswersAll (address : List ℕ → List ℕ) (asked : ScriptRun) (bytes : List ℕ) (old new : Option (List ℕ)) : Type 0 where
  pub written : List ℕ
  pub answers : IsAnswer address asked (script bytes (is_given asked.order)) written
  pub writes : Appends old new written

-- what these bytes come to: an answer, a fault, a stop, or a collision
pub data IsWanted (address : List ℕ → List ℕ) (asked : ScriptRun) (bytes written : List ℕ) : Type 0 where
  Answer : IsAnswer address asked (script bytes (is_given asked.order)) written → IsWanted address asked bytes written
  Fault : (bad : BadScript) → script bytes (is_given asked.order) ≡ Err bad → written ≡ fault_line bad → IsWanted address asked bytes written
  Stop : StopsAt address asked bytes written → IsWanted address asked bytes written
  Collision : (read : Script) (clash : Clash) → script bytes (is_given asked.order) ≡ Ok read → IsOpeningClash address asked.epoch clash → written ≡ collision_line clash → IsWanted address asked bytes written

-- a part was appended of it
pub record AnswersPart (address : List ℕ → List ℕ) (asked : ScriptRun) (bytes : List ℕ) (old new : Option (List ℕ)) (room : ℕ) : Type 0 where
  pub written : List ℕ
  pub wanted : IsWanted address asked bytes written
  pub wider : room < length written
  pub writes : AppendsFront old new written

-- what a script comes to that was read, in the order asked
abbrev pub ComesOf : (List ℕ → List ℕ) → ScriptRun → Script → Result (List ℕ) NoAnswer → Type 0
ComesOf address asked read (Ok written) = IsAnswer address asked (Ok read) written
ComesOf address asked read (Err fault.Memory) = Unit {0}
ComesOf address asked read (Err (fault.Bad bad)) = ⊥
ComesOf address asked read (Err (fault.Stopped written)) =
    (asked.order ≡ Given) × ((stop : StopText) × IsStoppedAt address asked.epoch read stop
    × ((other : StopText) → IsShownStop other → other.names ≡ read.names → stop_text other ≡ stop_text stop → IsSameStop stop other) × (written ≡ stop_text stop))
ComesOf address asked read (Err (fault.Collision clash)) = IsOpeningClash address asked.epoch clash
