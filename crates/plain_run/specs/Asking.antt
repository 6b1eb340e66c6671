-- A script that asks for an order of moments.
use Rattle.std.specs.Prelude.{ℕ, List, [], map, Some, slice_index_or}
use Rattle.script_text.specs.declared.scripts.Moment.{Moment}
use Rattle.script_text.specs.declared.scripts.OrderItem.{OrderItem}
use Rattle.script_text.specs.declared.scripts.Script.{Script}

-- a moment as an order line names it
abbrev pub item_of : List (List ℕ) → Moment → OrderItem
item_of names moment = record { name = slice_index_or names moment.session []; statement = moment.statement }

-- the script with this order in place of its own
abbrev pub asking : Script → List Moment → Script
asking script order = record script { order = Some (map (item_of script.names) order) }
