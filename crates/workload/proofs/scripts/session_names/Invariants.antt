use Rattle.std.proofs.Common.{◌≡◌, map, take}
use Rattle.std.specs.Prelude.{codes}
use Rattle.workload.specs.Workload.{name}
use Rattle.workload.proofs.scripts.session_names.Given as goal

abbrev pub invariant-loop-digit : goal.invariant-loop-digit
invariant-loop-digit l = l.these ≡ map name (take l.digit-index (codes "01234567"))
