-- What a run shows: replies, the order of moments, and the branches. Its text, and that the order and what no rule tells can be read
-- back from it, are those of every printed run.
use Rattle.std.specs.Prelude.{◌≡◌, ℕ, ℤ, List, map, Some}
use Rattle.std.specs.Option.{option_map}
use Rattle.tuple_codec.specs.declared.addresses.Address.{Address}
use Rattle.schema_model.specs.WrittenForms.{database_address}
use Rattle.script_text.specs.Output.{shortages_in}
use Rattle.script_text.specs.declared.outputs.BranchLine.{BranchLine}
use Rattle.script_text.specs.declared.outputs.RunText.{RunText}
use Rattle.script_text.specs.declared.scripts.Moment.{Moment}
use Rattle.script_text.specs.declared.scripts.Script.{Script}
use Rattle.plain_sessions.specs.declared.commands.Command.{Command}
use Rattle.plain_sessions.specs.Records.{Branch}
use Rattle.plain_sessions.specs.Runs.{State, plain_run}

-- the branches with the addresses of what they hold
abbrev pub as_address : List ℕ → Address
as_address bytes = record { 0 = bytes }

abbrev pub shown_branch : (List ℕ → List ℕ) → Branch → BranchLine
shown_branch address branch = record {
  name = branch.name;
  rec = record {
    head = as_address branch.state.head;
    working = as_address (database_address address branch.state.working);
    staged = as_address (database_address address branch.state.staged);
    merging = option_map as_address branch.state.merging;
  };
}

abbrev pub shown : (List ℕ → List ℕ) → Script → List Moment → State → RunText
shown address script order state = record {
  names = script.names;
  replies = map (λ runner. runner.replies) state.runners;
  order = order;
  branches = map (shown_branch address) state.shared.branches;
}

-- what a run shows is the machine's run over this reading, along the order and with the wants of memory and collisions, that it shows itself
abbrev pub IsPlainRun : (List ℕ → Command) → (List ℕ → List ℕ) → ℤ → Script → RunText → Type 0
IsPlainRun reads address epoch script run =
    option_map (shown address script run.order) (plain_run reads address script run.order (shortages_in run.replies) epoch) ≡ Some run
