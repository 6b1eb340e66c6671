use Rattle.std.proofs.Common.{◌≡◌}
use Rattle.script_run.specs.Opening.{counts}
use Rattle.script_run.proofs.opening.counts.Given as goal

abbrev pub invariant-loop-place : goal.invariant-loop-place
invariant-loop-place l = l.all.items ≡ counts l.place l.lines
