use Rattle.script_run.specs.Running.{IsRunningAt}
use Rattle.script_run.proofs.lines.run_lines.Given as goal

abbrev pub invariant-loop-at : goal.invariant-loop-at
invariant-loop-at g l = IsRunningAt g.D.Digester.address l.epoch l.script l.at l.running
