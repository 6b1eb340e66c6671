use Rattle.std.proofs.Common.{◌≡◌, []}
use Rattle.workload.specs.Workload.{each, with_session}
use Rattle.workload.proofs.scripts.script_lines.Given as goal

abbrev pub invariant-loop-session : goal.invariant-loop-session
invariant-loop-session l = l.lines ≡ each l.session (with_session l.seed) []
