use Rattle.std.proofs.Common.{◌≡◌, drop}
use Rattle.branch_procs.specs.Taking.{taking_all}
use Rattle.branch_procs.proofs.taking.take_all.Given as goal

abbrev pub invariant-loop-name : goal.invariant-loop-name
invariant-loop-name l = taking_all l.from l.made.items (drop l.name-index l.names) ≡ taking_all l.from l.fn.into.items l.names
