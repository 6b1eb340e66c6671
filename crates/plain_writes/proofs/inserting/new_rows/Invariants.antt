use Rattle.std.proofs.Common.{◌≡◌, ◌++◌, map, drop, Ok}
use Rattle.expr_eval.specs.Binding.{and_then}
use Rattle.plain_sql.specs.Lists.{each}
use Rattle.plain_writes.specs.Seen.{given_seen}
use Rattle.plain_writes.specs.Writes.{new_row}
use Rattle.plain_writes.proofs.inserting.new_rows.Given as goal

abbrev pub invariant-loop-one : goal.invariant-loop-one
invariant-loop-one l =
    each (new_row l.schema l.places) (map (map given_seen) l.said)
    ≡ and_then (each (new_row l.schema l.places) (map (map given_seen) (drop l.one-index l.said))) (λ more. Ok (l.rows ++ more))
