-- A run in threads before its first statement.
use Rattle.std.proofs.Common.{◌≡◌, refl, sym, subst, ℕ, ℤ, ◌+◌, ◌<◌, List, [], get_or, length, Some, slice_get, arith}
use Rattle.std.proofs.lemmas.Option.{get_or_from_slice_get, slice_get_within}
use Rattle.tuple_codec.proofs.Lists.{there_at as found_there}
use Rattle.script_text.specs.declared.scripts.Script.{Script}
use Rattle.plain_sessions.specs.Commands.{command}
use Rattle.plain_sessions.specs.Records.{opening}
use Rattle.plain_sessions.specs.Runs.{commands_of}
use Rattle.plain_sessions.specs.Sessions.{new_session}
use Rattle.run_laws.proofs.ThreadLemmas.{way_first}
use Rattle.session_state.specs.Changes.{Parts, StateStands}
use Rattle.seat_gate.specs.History.{View, first_view, newcomer}
use Rattle.seat_gate.specs.Words.{gate_id, gate_of, seat_view}
use Rattle.seat_gate.specs.Working.{AreNewcomers, IsNewcomer, giving_out}
use Rattle.seat_gate.specs.declared.workers.Worker.{Worker}
use Rattle.shared_history.specs.Spelling.{SpellsState, spelling_of}
use Rattle.script_run.specs.Opening.{AreNewPlayers, counts}
use Rattle.script_run.specs.Scripts.{IsSoundScript}
use Rattle.script_run.specs.declared.players.Player.{Player}
use Rattle.script_run.proofs.PlayerLemmas.{first_at, new_at, new_is, new_room}
use Rattle.thread_run.specs.Going.{IsGoing}
use Rattle.thread_run.specs.Opening.{IsOpenAtGate}
use Rattle.thread_run.specs.declared.opening.OpenedGate.{OpenedGate}

module _ {D : Type 0} (address : List ℕ → List ℕ) (epoch : ℤ) (script : Script) (parts : Parts) (statements : List ℕ) (players : List (Player D)) (sound : IsSoundScript script)
    (counted : statements ≡ counts (length script.names) script.lines) (stands : StateStands address parts (opening address epoch script.names)) (numbers : parts.numbers ≡ statements)
    (none : parts.moments ≡ []) (new : AreNewPlayers address script.names script.lines statements players) where
  -- the session at its place, before its first statement
  going_at : (place : ℕ) (name : List ℕ) (player : Player D) → slice_get script.names place ≡ Some name → slice_get players place ≡ Some player
      → IsGoing address epoch place (new_session place name) (commands_of command place script.lines) (newcomer (giving_out place (first_view (spelling_of parts)))) player
  going_at place name player named there =
      record {
        number = let number : 1 + place ≡ place + 1 = omega arith in number;
        parts = parts;
        spelled = refl;
        shared = opening address epoch script.names;
        runner = first_at script place name;
        is = new_is address epoch script parts players statements place name player sound stands named (new_at address epoch script parts players statements counted new place name player named there);
        way = way_first (SpellsState address) address epoch (new_session place name) (commands_of command place script.lines) refl;
        counted = new_room address epoch script parts players statements counted new none numbers place player there;
      }

  pub is_open : (at : OpenedGate D) → gate_of at.first ≡ gate_id at.gate → seat_view at.first ≡ giving_out (length players) (first_view (spelling_of parts))
      → AreNewcomers (gate_id at.gate) (first_view (spelling_of parts)) players at.workers.items → IsOpenAtGate address epoch script at
  is_open at gate view seated = record {
    gate = gate;
    parts = parts;
    stands = stands;
    players = players;
    many = new.lists;
    view = view;
    seated = seated;
    going = λ place name worker named there.
        let below : place < length script.names = slice_get_within script.names place name named in
        let given = found_there players place (let lists = new.lists in omega (arith, lists, below)) in
        let is : IsNewcomer (gate_id at.gate) (giving_out place (first_view (spelling_of parts))) given.0 worker
        = subst (λ (p : Player D). IsNewcomer (gate_id at.gate) (giving_out place (first_view (spelling_of parts))) p worker) (get_or_from_slice_get players place given.0 given.0 given.1)
        (subst (λ (w : Worker (Player D)). IsNewcomer (gate_id at.gate) (giving_out place (first_view (spelling_of parts))) (get_or players place given.0) w)
        (get_or_from_slice_get at.workers.items place worker worker there)
        (seated.each place given.0 worker (let lists = new.lists in omega (arith, lists, below)))) in
        subst (λ (v : View). IsGoing address epoch place (new_session place name) (commands_of command place script.lines) v worker.work) (sym is.view)
        (subst (λ (p : Player D). IsGoing address epoch place (new_session place name) (commands_of command place script.lines) (newcomer (giving_out place (first_view (spelling_of parts)))) p)
        (sym is.work) (going_at place name given.0 named given.1));
  }
