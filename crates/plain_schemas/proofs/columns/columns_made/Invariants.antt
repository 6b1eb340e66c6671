use Rattle.std.proofs.Common.{◌≡◌, ◌++◌, drop, Ok}
use Rattle.expr_eval.specs.Binding.{and_then}
use Rattle.plain_sql.specs.Lists.{all_of}
use Rattle.plain_schemas.specs.Made.{column_made}
use Rattle.plain_schemas.proofs.columns.columns_made.Given as goal

abbrev pub invariant-loop-element : goal.invariant-loop-element
invariant-loop-element l =
    all_of (column_made l.elements) l.elements
    ≡ and_then (all_of (column_made l.elements) (drop l.element-index l.elements)) (λ more. Ok (l.columns ++ more))
