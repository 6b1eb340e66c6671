-- What the program reads and writes.
use Rattle.std.specs.Prelude.{◌≡◌, ℕ, ◌+◌, Bool, List, ◌++◌, codes, Option, Some, None, Result, Ok}
use Rattle.std.specs.Io.KnownBytes.{Appends, IsAtEnd}
use Rattle.script_text.specs.Collisions.{AllTellTruly}
use Rattle.script_text.specs.Input.{script, most_bytes}
use Rattle.script_text.specs.Output.{text}
use Rattle.script_text.specs.Shown.{IsSameShown, IsShown}
use Rattle.script_text.specs.declared.faults.BadScript.{BadScript}
use Rattle.script_text.specs.declared.outputs.RunText.{RunText}
use Rattle.script_text.specs.declared.scripts.Moment.{Moment}
use Rattle.script_text.specs.declared.scripts.Script.{Script}
use Rattle.plain_sessions.specs.Commands.{command}
use Rattle.plain_sessions.specs.Output.{IsPlainRun}
use Rattle.run_laws.specs.Orders.{IsGivenOrder, IsTextOrder}
use Rattle.program_run.specs.Words.{is_given}
use Rattle.program_run.specs.declared.words.MomentOrder.{MomentOrder}
use Rattle.program_run.specs.declared.words.MomentOrder.TheVariants.{Given, OfLines, OfThreads}
use Rattle.program_run.specs.declared.words.ScriptRun.{ScriptRun}

abbrev pub usage_line : List ℕ
usage_line = codes "usage: doltrun ordered|threads|replay [--epoch N] | load --seed N [--epoch N]\n"

-- no more bytes than these are taken from a source: one above the longest script's
abbrev pub most_taken : ℕ
most_taken = most_bytes + 1

-- what the script of the whole input is, where the source tells its bytes
abbrev pub HasScript : Option (List ℕ) → Bool → Result Script BadScript → Type 0
HasScript None with_order read = Unit {0}
HasScript (Some input) with_order read = script input with_order ≡ read

-- the moments stand in the order of the script's lines; or the script gives their order; or each session was in a thread of its own, and any order may have
-- come of it along which the plain machine runs
abbrev pub IsInOrder : MomentOrder → Script → List Moment → Type 0
IsInOrder OfLines script order = IsTextOrder script order
IsInOrder Given script order = IsGivenOrder script order
IsInOrder OfThreads script order = Unit {0}

-- The text that was written is that of a run which is the plain machine's run of the script with the epoch asked, along the order and with
-- the wants of memory and collisions that the text shows; the order is that of its lines, or as the script gives it, or any where sessions were in threads; each collision is one of two byte strings of that
-- address; and whatever run has this text has the same sessions, printed replies, wants of memory, collisions and order.
pub record IsAnswer (address : List ℕ → List ℕ) (asked : ScriptRun) (read : Result Script BadScript) (written : List ℕ) : Type 0 where
  pub script : Script
  pub run : RunText
  pub reads : read ≡ Ok script
  pub runs : IsPlainRun command address asked.epoch script run
  pub truly : AllTellTruly address run.replies
  pub ordered : IsInOrder asked.order script run.order
  pub shown : IsShown run
  pub prints : written ≡ text run
  pub alone : (other : RunText) → IsShown other → text other ≡ written → IsSameShown run other

-- the whole input was read, and the whole answer to its script was appended
pub record WritesAnswer (address : List ℕ → List ℕ) (asked : ScriptRun) (told left old new : Option (List ℕ)) : Type 0 where
  pub read : Result Script BadScript
  pub script : HasScript told (is_given asked.order) read
  pub ended : IsAtEnd left
  pub written : List ℕ
  pub answers : IsAnswer address asked read written
  pub writes : Appends old new written
