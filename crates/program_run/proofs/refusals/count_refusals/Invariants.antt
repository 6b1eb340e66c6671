use Rattle.std.proofs.Common.{◌≡◌, ◌+◌, drop}
use Rattle.program_run.specs.Loading.{refusals_in}
use Rattle.program_run.proofs.refusals.count_refusals.Given as goal

abbrev pub invariant-loop-session : goal.invariant-loop-session
invariant-loop-session l = l.refusals + refusals_in (drop l.session-index l.replies) ≡ refusals_in l.replies
