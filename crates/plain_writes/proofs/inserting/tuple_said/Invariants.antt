use Rattle.std.proofs.Common.{◌≡◌, ◌++◌, map, drop, Ok}
use Rattle.std.specs.List.{enumerate_from}
use Rattle.expr_eval.specs.Binding.{and_then}
use Rattle.plain_sql.specs.Lists.{each}
use Rattle.plain_writes.specs.Seen.{given_seen}
use Rattle.plain_writes.specs.Writes.{entry_at}
use Rattle.plain_writes.proofs.inserting.tuple_said.Given as goal

abbrev pub invariant-loop-at : goal.invariant-loop-at
invariant-loop-at l =
    each (entry_at l.schema l.places) (enumerate_from 0 l.entries)
    ≡ and_then (each (entry_at l.schema l.places) (enumerate_from l.at (drop l.at l.entries))) (λ more. Ok (map given_seen l.said ++ more))
