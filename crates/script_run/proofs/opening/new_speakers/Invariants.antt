use Rattle.std.proofs.Common.{◌≡◌, ℕ, List, length, Some, slice_get}
use Rattle.script_run.specs.Opening.{IsNew}
use Rattle.script_run.specs.declared.running.Speaker.{Speaker}
use Rattle.script_run.proofs.opening.new_speakers.Given as goal

abbrev pub invariant-loop-place : goal.invariant-loop-place
invariant-loop-place g l = record {
  lists : length l.speakers.items ≡ l.place;
  each : (place count : ℕ) (speaker : Speaker g.row.D.Denot) (name : List ℕ) → slice_get l.speakers.items place ≡ Some speaker → slice_get l.names place ≡ Some name → slice_get l.statements place ≡ Some count
      → IsNew g.D.Digester.address place name count speaker;
}
