use Rattle.std.proofs.Common.{◌≡◌, ◌++◌, drop, Ok}
use Rattle.expr_eval.specs.Binding.{and_then}
use Rattle.plain_sql.specs.Lists.{each}
use Rattle.plain_schemas.specs.Altered.{small_row_after}
use Rattle.plain_schemas.proofs.changing.rows_after.Given as goal

abbrev pub invariant-loop-row : goal.invariant-loop-row
invariant-loop-row l =
    each (small_row_after l.schema l.change) l.rows
    ≡ and_then (each (small_row_after l.schema l.change) (drop l.row-index l.rows)) (λ more. Ok (l.after ++ more))
