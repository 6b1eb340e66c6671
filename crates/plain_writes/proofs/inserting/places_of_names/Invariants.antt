use Rattle.std.proofs.Common.{◌≡◌, ◌++◌, drop, Ok}
use Rattle.expr_eval.specs.Binding.{and_then}
use Rattle.plain_sql.specs.Lists.{each}
use Rattle.plain_writes.specs.Writes.{named_place}
use Rattle.plain_writes.proofs.inserting.places_of_names.Given as goal

abbrev pub invariant-loop-name : goal.invariant-loop-name
invariant-loop-name l =
    each (named_place l.schema) l.names ≡ and_then (each (named_place l.schema) (drop l.name-index l.names)) (λ more. Ok (l.places.items ++ more))
