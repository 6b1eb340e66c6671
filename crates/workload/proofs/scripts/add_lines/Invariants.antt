use Rattle.std.proofs.Common.{◌≡◌, ◌++◌, map}
use Rattle.workload.specs.Workload.{line, text_of}
use Rattle.workload.proofs.scripts.add_lines.Given as goal

abbrev pub invariant-loop-step : goal.invariant-loop-step
invariant-loop-step l = l.lines ≡ l.initial.lines ++ map (line l.session) (map text_of l.yielded)
