-- What the plain machine writes of a script in the order that it gives, and in that of its lines.
use Rattle.std.specs.Prelude.{◌≡◌, ℕ, ℤ, ◌+◌, List, ◌++◌, codes, None, Some}
use Rattle.std.specs.Fmt.{decimal}
use Rattle.script_text.specs.Output.{newline}
use Rattle.script_text.specs.declared.scripts.Moment.{Moment}
use Rattle.script_text.specs.declared.scripts.Script.{Script}
use Rattle.plain_sessions.specs.Commands.{command}
use Rattle.plain_sessions.specs.Runs.{nothing_refused}
use Rattle.run_laws.specs.Orders.{IsTextOrder, asked_order}
use Rattle.run_laws.specs.Replaying.{IsStopped}
use Rattle.plain_run.specs.Plain.{plain_text}
use Rattle.plain_run.specs.declared.following.Followed.{Followed}
use Rattle.plain_run.specs.declared.following.Followed.TheVariants.{Stop, Text}

-- the two lines that tell the item at which an order can't be followed, where nothing was refused before it
abbrev pub plain_stop_text : ℕ → List ℕ
plain_stop_text item = codes "order item " ++ decimal item ++ newline ++ codes "refused" ++ newline

-- With nothing refused the machine follows so many items of the order that the script gives, and can't follow the next one, or has a moment left where there is
-- none: it has no text along that order, and these lines tell the item.
pub record IsPlainStop (address : List ℕ → List ℕ) (epoch : ℤ) (script : Script) (written : List ℕ) : Type 0 where
  pub count : ℕ
  pub stopped : IsStopped command address epoch script (asked_order script) count nothing_refused
  pub untold : plain_text address epoch script (asked_order script) ≡ None
  pub prints : written ≡ plain_stop_text (count + 1)

abbrev pub FollowsAs : (List ℕ → List ℕ) → ℤ → Script → Followed → Type 0
FollowsAs address epoch script (Text written) = plain_text address epoch script (asked_order script) ≡ Some written
FollowsAs address epoch script (Stop written) = IsPlainStop address epoch script written

-- the text along an order in which the statements are run one after another, as the script has them
abbrev pub TellsInTextOrder : (List ℕ → List ℕ) → ℤ → Script → List ℕ → Type 0
TellsInTextOrder address epoch script written = (order : List Moment) × IsTextOrder script order × (plain_text address epoch script order ≡ Some written)
