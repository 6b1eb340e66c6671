use Rattle.std.proofs.Common.{◌≡◌, ℕ, List, length, Some, slice_get}
use Rattle.script_run.specs.Opening.{IsNewPlayer}
use Rattle.script_run.specs.declared.players.Player.{Player}
use Rattle.script_run.proofs.players.new_players.Given as goal

abbrev pub invariant-loop-place : goal.invariant-loop-place
invariant-loop-place g l = record {
  lists : length l.players.items ≡ l.place;
  each : (place count : ℕ) (player : Player g.row.D.Denot) (name : List ℕ) → slice_get l.players.items place ≡ Some player → slice_get l.names place ≡ Some name → slice_get l.statements place ≡ Some count
      → IsNewPlayer g.D.Digester.address place name l.lines count player;
}
