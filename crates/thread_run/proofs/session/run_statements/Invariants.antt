use Rattle.std.proofs.Common.{◌≡◌, ℕ, List, false, true}
use Rattle.plain_sessions.specs.Sessions as plain
use Rattle.plain_sessions.specs.declared.commands.Command.{Command}
use Rattle.seat_gate.specs.Words.{gate_id, seat_view}
use Rattle.script_run.specs.Following.{is_settled, moments_left}
use Rattle.thread_run.specs.Gate.{IsFrom, gate_at, tells_at, view_at}
use Rattle.thread_run.specs.Going.{IsGoing}
use Rattle.thread_run.proofs.session.run_statements.Given as goal

abbrev pub invariant-turns : goal.invariant-turns
invariant-turns g l = record {
  ready : (begun : _) × (gate_at begun ≡ gate_id l.gate) × (view_at begun ≡ seat_view l.fn.seat) × IsFrom g.D.Digester.address begun l.meeting;
  rests : (tells_at l.meeting).held ≡ false;
  going : (place : ℕ) (first : plain.Session) (all : List Command) → IsGoing g.D.Digester.address l.fn.epoch place first all (seat_view l.fn.seat) l.fn.player
      → IsGoing g.D.Digester.address l.fn.epoch place first all (view_at l.meeting) l.player;
  settled : is_settled l.player ≡ true;
}

abbrev pub decreases-turns : goal.decreases-turns
decreases-turns g l = moments_left l.player
