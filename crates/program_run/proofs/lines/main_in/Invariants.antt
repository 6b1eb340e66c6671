use Rattle.std.proofs.Common.{◌≡◌, drop, find}
use Rattle.program_run.specs.Loading.{is_main}
use Rattle.program_run.proofs.lines.main_in.Given as goal

abbrev pub invariant-loop-line : goal.invariant-loop-line
invariant-loop-line l = find is_main (drop l.line-index l.lines) ≡ find is_main l.lines
