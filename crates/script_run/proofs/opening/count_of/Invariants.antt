use Rattle.std.proofs.Common.{◌≡◌, ◌+◌, ◌≤◌, drop}
use Rattle.run_laws.specs.Orders.{count_of}
use Rattle.script_run.proofs.opening.count_of.Given as goal

abbrev pub invariant-loop-line : goal.invariant-loop-line
invariant-loop-line l = record {
  rest : l.count + count_of l.place (drop l.line-index l.lines) ≡ count_of l.place l.lines;
  few : l.count ≤ l.line-index;
}
