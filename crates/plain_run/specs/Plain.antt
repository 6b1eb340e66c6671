-- The plain machine's text.
use Rattle.std.specs.Prelude.{ℕ, ℤ, Bool, List, Option, is_none}
use Rattle.std.specs.Option.{option_map}
use Rattle.script_text.specs.Output.{shortage, text}
use Rattle.script_text.specs.declared.replies.Reply.{Reply}
use Rattle.script_text.specs.declared.scripts.Moment.{Moment}
use Rattle.script_text.specs.declared.scripts.Script.{Script}
use Rattle.plain_sessions.specs.Commands.{command}
use Rattle.plain_sessions.specs.Output.{shown}
use Rattle.plain_sessions.specs.Runs.{nothing_refused, plain_run}

-- the text of the machine's run of a script along an order, with nothing refused; none where the order isn't one of the script's
abbrev pub plain_text : (List ℕ → List ℕ) → ℤ → Script → List Moment → Option (List ℕ)
plain_text address epoch script order =
    option_map (λ state. text (shown address script order state)) (plain_run command address script order nothing_refused epoch)

-- a reply that tells of no want of memory and of no collision
abbrev pub is_by_rule : Reply → Bool
is_by_rule reply = is_none (shortage reply)
