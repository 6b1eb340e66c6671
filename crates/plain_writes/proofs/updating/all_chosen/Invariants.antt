use Rattle.std.proofs.Common.{◌≡◌, ◌++◌, map, drop, Ok}
use Rattle.expr_eval.specs.Binding.{and_then}
use Rattle.plain_sql.specs.Lists.{each}
use Rattle.plain_sql.specs.Plans.{meaning}
use Rattle.plain_writes.specs.Writes.{stays}
use Rattle.plain_writes.proofs.updating.all_chosen.Given as goal

abbrev pub invariant-loop-row : goal.invariant-loop-row
invariant-loop-row l =
    each (stays (map meaning l.tests)) l.rows ≡ and_then (each (stays (map meaning l.tests)) (drop l.row-index l.rows)) (λ more. Ok (l.all ++ more))
