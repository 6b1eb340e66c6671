-- What the program writes of a script, by the status that it ends with.
use Rattle.std.specs.Prelude.{◌≡◌, ◌≤◌, ℕ, pos, List, codes, length, Option, None, Some, Result, Ok, Err}
use Rattle.std.specs.Io.KnownBytes.{Consumes, IsAtEnd}
use Rattle.chunk_store.specs.Digests.{cut_address}
use Rattle.chunk_store.specs.declared.faults.Clash.{Clash}
use Rattle.script_text.specs.Collisions.{IsCollision}
use Rattle.script_text.specs.Input.{most_bytes, script}
use Rattle.script_text.specs.Lines.{collision_line, fault_line}
use Rattle.script_text.specs.declared.faults.BadScript.{BadScript}
use Rattle.script_text.specs.declared.scripts.Moment.{Moment}
use Rattle.script_text.specs.declared.scripts.Script.{Script}
use Rattle.run_laws.specs.Orders.{IsGivenOrder, IsTextOrder}
use Rattle.plain_run.specs.Following.{IsPlainStop}
use Rattle.plain_run.specs.Plain.{plain_text}
use Rattle.plain_machine.specs.Words.{is_given}
use Rattle.script_text.specs.declared.status.Status.{Status}
use Rattle.script_text.specs.declared.status.Status.TheVariants as status
use Rattle.plain_machine.specs.declared.words.MomentOrder.{MomentOrder}
use Rattle.plain_machine.specs.declared.words.MomentOrder.TheVariants.{Given, OfLines}

abbrev pub usage_line : List ℕ
usage_line = codes "usage: plain_machine ordered|replay\n"

-- the statements are run one after another, as the script has them; or the script gives the order
abbrev pub IsInOrder : MomentOrder → Script → List Moment → Type 0
IsInOrder OfLines script moments = IsTextOrder script moments
IsInOrder Given script moments = IsGivenOrder script moments

-- Of a script, in the order asked: the text of the plain machine's run along that order, with nothing refused; or the lines of the item of the given order that
-- the machine can't follow; or two byte strings of one address. Of bytes that are no script: the line and the rule that it breaks.
abbrev pub Answers : MomentOrder → Result Script BadScript → Status → List ℕ → Type 0
Answers order (Ok read) status.Done written = (moments : List Moment) × IsInOrder order read moments × (plain_text cut_address (pos 0) read moments ≡ Some written)
Answers order (Ok read) status.Order written = (order ≡ Given) × IsPlainStop cut_address (pos 0) read written
Answers order (Ok read) status.Collision written = (clash : Clash) × IsCollision cut_address clash × (written ≡ collision_line clash)
Answers order (Err bad) status.Script written = written ≡ fault_line bad
Answers order come result written = ⊥

-- Where no order is asked for, nothing was read, and the line that tells the forms is written. Else bytes were read, to the input's end or past the longest script,
-- and the answer is that to the script that they are.
abbrev pub AnswersInput : Option MomentOrder → Option (List ℕ) → Option (List ℕ) → Status → List ℕ → Type 0
AnswersInput None told left result written = (left ≡ told) × (result ≡ status.Usage) × (written ≡ usage_line)
AnswersInput (Some order) told left result written =
    (bytes : List ℕ) × Consumes told left bytes × (length bytes ≤ most_bytes → IsAtEnd left) × Answers order (script bytes (is_given order)) result written
