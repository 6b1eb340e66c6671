use Rattle.std.proofs.Common.{◌≡◌, ◌++◌, drop, Ok}
use Rattle.expr_eval.specs.Binding.{and_then}
use Rattle.plain_sql.specs.Lists.{each}
use Rattle.plain_schemas.specs.Effects.{parent_place}
use Rattle.plain_schemas.proofs.referring.parent_places.Given as goal

abbrev pub invariant-loop-name : goal.invariant-loop-name
invariant-loop-name l =
    each (parent_place l.columns) l.names ≡ and_then (each (parent_place l.columns) (drop l.name-index l.names)) (λ more. Ok (l.found ++ more))
