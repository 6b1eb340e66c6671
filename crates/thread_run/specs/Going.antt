-- A session at work in its thread: what its seat tells is the way that the machine's session goes.
use Rattle.std.specs.Prelude.{◌≡◌, ℕ, ℤ, ◌≤◌, true, List}
use Rattle.plain_sessions.specs.Records.{Shared}
use Rattle.plain_sessions.specs.Runs.{Runner}
use Rattle.plain_sessions.specs.Sessions as plain
use Rattle.plain_sessions.specs.declared.commands.Command.{Command}
use Rattle.run_laws.specs.Histories.{Way}
use Rattle.session_state.specs.Changes.{Parts}
use Rattle.shared_db.specs.Shared.{Db}
use Rattle.seat_gate.specs.History.{View, HasMade}
use Rattle.seat_gate.specs.Told.{left_last}
use Rattle.seat_gate.specs.Words.{GateId}
use Rattle.seat_gate.specs.Working.{IsSeated, KeepsPlace, view_in}
use Rattle.seat_gate.specs.declared.workers.Worker.{Worker}
use Rattle.shared_history.specs.Fitting.{Fits, seat_of}
use Rattle.shared_history.specs.Spelling.{SpellsState, spelling_of}
use Rattle.script_run.specs.Following.{IsPlayer, is_free, is_through, moments_left}
use Rattle.script_run.specs.Seats.{room_at}
use Rattle.script_run.specs.declared.players.Player.{Player}
use Rattle.thread_run.specs.Turns.{turns_of}

-- in the parts that its seat saw last the session stands for the machine's, which came there by the session's own moments, whatever others did between
-- them
pub record IsGoing {D : Type 0} (address : List ℕ → List ℕ) (epoch : ℤ) (place : ℕ) (first : plain.Session) (all : List Command) (view : View) (player : Player D) : Type 0 where
  pub number : view.number ≡ seat_of place
  pub parts : Parts
  pub spelled : spelling_of parts ≡ left_last view.opened view.seen
  pub shared : Shared
  pub runner : Runner
  pub is : IsPlayer address parts shared place runner player
  pub way : Way (SpellsState address) address epoch first all (turns_of view) runner
  -- there is room for the moments that its statements may still take
  pub counted : moments_left player ≤ room_at parts place

-- so the session stands in the database that the gate gave back, which fits all that the seat saw
pub record IsThere {D : Type 0} (address : List ℕ → List ℕ) (epoch : ℤ) (place : ℕ) (first : plain.Session) (all : List Command) (view : View) (db : Db) (player : Player D) : Type 0 where
  pub fits : Fits address db view.opened view.seen
  pub runner : Runner
  pub is : IsPlayer address db.parts fits.shared place runner player
  pub way : Way (SpellsState address) address epoch first all (turns_of view) runner

-- the worker has its seat, and its session is on its way
pub record IsAtWork {D : Type 0} (address : List ℕ → List ℕ) (epoch : ℤ) (id : GateId) (worker : Worker (Player D)) : Type 0 where
  pub seated : IsSeated id worker.seat
  pub own : HasMade (view_in worker.seat)
  pub place : ℕ
  pub first : plain.Session
  pub all : List Command
  pub going : IsGoing address epoch place first all (view_in worker.seat) worker.work

-- the worker has its seat, and its session has answered all its statements
pub record HasWorked {D : Type 0} (address : List ℕ → List ℕ) (epoch : ℤ) (id : GateId) (old new : Worker (Player D)) : Type 0 where
  pub seated : IsSeated id new.seat
  pub own : HasMade (view_in new.seat)
  pub keeps : KeepsPlace (view_in old.seat) (view_in new.seat)
  pub going : (place : ℕ) (first : plain.Session) (all : List Command) → IsGoing address epoch place first all (view_in old.seat) old.work
      → IsGoing address epoch place first all (view_in new.seat) new.work
  pub through : is_through new.work ≡ true
  pub free : is_free new.work.stage ≡ true
