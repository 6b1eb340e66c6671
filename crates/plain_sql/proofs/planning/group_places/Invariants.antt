use Rattle.std.proofs.Common.{◌≡◌, ◌++◌, drop, Ok}
use Rattle.expr_eval.specs.Binding.{and_then}
use Rattle.plain_sql.specs.Lists.{each}
use Rattle.plain_sql.specs.Plans.{group_place}
use Rattle.plain_sql.proofs.planning.group_places.Given as goal

abbrev pub invariant-loop-column : goal.invariant-loop-column
invariant-loop-column l =
    each (group_place l.scope) l.columns ≡ and_then (each (group_place l.scope) (drop l.column-index l.columns)) (λ more. Ok (l.places ++ more))
