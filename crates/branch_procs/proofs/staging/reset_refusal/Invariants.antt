use Rattle.std.proofs.Common.{◌≡◌, drop}
use Rattle.branch_procs.specs.Staging.{first_absence}
use Rattle.branch_procs.proofs.staging.reset_refusal.Given as goal

abbrev pub invariant-loop-name : goal.invariant-loop-name
invariant-loop-name l = first_absence l.root l.staged (drop l.name-index l.names) ≡ first_absence l.root l.staged l.names
