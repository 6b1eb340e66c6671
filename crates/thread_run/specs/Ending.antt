-- A run in threads once all of them were joined.
use Rattle.std.specs.Prelude.{◌≡◌, ℕ, ℤ, ◌<◌, List, length, slice_index_or, Some}
use Rattle.script_text.specs.Output.{shortages_in}
use Rattle.script_text.specs.declared.scripts.Script.{Script}
use Rattle.plain_sessions.specs.Commands.{command}
use Rattle.plain_sessions.specs.Runs.{plain_run}
use Rattle.run_laws.specs.Replaying.{all_replies}
use Rattle.session_state.specs.Changes.{Parts}
use Rattle.seat_gate.specs.Words.{GateId}
use Rattle.seat_gate.specs.declared.workers.Worker.{Worker}
use Rattle.script_run.specs.Following.{AreAlong}
use Rattle.script_run.specs.declared.players.Player.{Player}
use Rattle.thread_run.specs.Going.{HasWorked}

-- each worker has its seat, and its session has answered all its statements
pub record HaveWorked {D : Type 0} (address : List ℕ → List ℕ) (epoch : ℤ) (id : GateId) (old new : List (Worker (Player D))) : Type 0 where
  pub many : length new ≡ length old
  pub each : (k : ℕ) (d : Worker (Player D)) → k < length old → HasWorked address epoch id (slice_index_or old k d) (slice_index_or new k d)

-- the sessions stand in the parts that the gate gave back, and the machine's run along the moments there comes to them
pub record HasEnded {D : Type 0} (address : List ℕ → List ℕ) (epoch : ℤ) (script : Script) (parts : Parts) (players : List (Player D)) : Type 0 where
  pub along : AreAlong address script parts.moments parts players
  pub machine : plain_run command address script parts.moments (shortages_in (all_replies along.runners)) epoch ≡ Some (record { shared = along.shared; runners = along.runners })
