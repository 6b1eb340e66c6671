-- A run in threads before its first statement.
use Rattle.std.specs.Prelude.{◌≡◌, ℕ, ℤ, List, length, Some, slice_get}
use Rattle.script_text.specs.declared.scripts.Script.{Script}
use Rattle.plain_sessions.specs.Commands.{command}
use Rattle.plain_sessions.specs.Records.{opening}
use Rattle.plain_sessions.specs.Runs.{commands_of}
use Rattle.plain_sessions.specs.Sessions.{new_session}
use Rattle.session_state.specs.Changes.{Parts, StateStands}
use Rattle.seat_gate.specs.History.{first_view}
use Rattle.seat_gate.specs.Words.{gate_id, gate_of, seat_view}
use Rattle.seat_gate.specs.Working.{AreNewcomers, giving_out, view_in}
use Rattle.seat_gate.specs.declared.workers.Worker.{Worker}
use Rattle.shared_history.specs.Spelling.{spelling_of}
use Rattle.script_run.specs.declared.players.Player.{Player}
use Rattle.thread_run.specs.Going.{IsGoing}
use Rattle.thread_run.specs.declared.opening.OpenedGate.{OpenedGate}

-- the gate keeps a database that stands for the opening, its first seat gave a seat to each session, and each session is before its first statement
pub record IsOpenAtGate {D : Type 0} (address : List ℕ → List ℕ) (epoch : ℤ) (script : Script) (at : OpenedGate D) : Type 0 where
  pub gate : gate_of at.first ≡ gate_id at.gate
  pub parts : Parts
  pub stands : StateStands address parts (opening address epoch script.names)
  pub players : List (Player D)
  pub many : length players ≡ length script.names
  pub view : seat_view at.first ≡ giving_out (length players) (first_view (spelling_of parts))
  pub seated : AreNewcomers (gate_id at.gate) (first_view (spelling_of parts)) players at.workers.items
  pub going : (place : ℕ) (name : List ℕ) (worker : Worker (Player D)) → slice_get script.names place ≡ Some name → slice_get at.workers.items place ≡ Some worker
      → IsGoing address epoch place (new_session place name) (commands_of command place script.lines) (view_in worker.seat) worker.work
