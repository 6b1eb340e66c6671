-- A script whose order can't be followed to its end.
use Rattle.std.specs.Prelude.{◌≡◌, ℕ, ◌+◌, ℤ, List}
use Rattle.script_text.specs.Collisions.{AllTellTruly}
use Rattle.script_text.specs.Output.{shortages_in}
use Rattle.script_text.specs.Shown.{IsShownStop}
use Rattle.script_text.specs.declared.outputs.StopText.{StopText}
use Rattle.script_text.specs.declared.scripts.Script.{Script}
use Rattle.plain_sessions.specs.Commands.{command}
use Rattle.run_laws.specs.Orders.{asked_order}
use Rattle.run_laws.specs.Replaying.{IsStopped, all_replies}

-- the items before the one told are followed, with the wants of memory and collisions that the replies tell, and that one can't be, or is missing
-- while a moment is left; and the replies are all that the machine has given there
pub record IsStoppedAt (address : List ℕ → List ℕ) (epoch : ℤ) (script : Script) (stop : StopText) : Type 0 where
  pub count : ℕ
  pub item : stop.item ≡ count + 1
  pub stopped : IsStopped command address epoch script (asked_order script) count (shortages_in stop.replies)
  pub said : stop.replies ≡ all_replies stopped.state.runners
  pub names : stop.names ≡ script.names
  pub shown : IsShownStop stop
  pub truly : AllTellTruly address stop.replies
