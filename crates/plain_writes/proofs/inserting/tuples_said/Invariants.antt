use Rattle.std.proofs.Common.{◌≡◌, ◌++◌, map, drop, Ok}
use Rattle.expr_eval.specs.Binding.{and_then}
use Rattle.plain_sql.specs.Lists.{each}
use Rattle.plain_writes.specs.Seen.{given_seen}
use Rattle.plain_writes.specs.Writes.{tuple_said}
use Rattle.plain_writes.proofs.inserting.tuples_said.Given as goal

abbrev pub invariant-loop-tuple : goal.invariant-loop-tuple
invariant-loop-tuple l =
    each (tuple_said l.schema l.places) l.tuples
    ≡ and_then (each (tuple_said l.schema l.places) (drop l.tuple-index l.tuples)) (λ more. Ok (map (map given_seen) l.all ++ more))
