use Rattle.std.proofs.Common.{◌≡◌, ◌++◌, map, drop, Ok}
use Rattle.expr_eval.specs.Binding.{and_then}
use Rattle.plain_sql.specs.Lists.{each}
use Rattle.plain_sql.specs.Plans.{sort_key}
use Rattle.plain_sql.specs.Seen.{key_seen}
use Rattle.plain_sql.proofs.keys.sort_keys.Given as goal

abbrev pub invariant-loop-key : goal.invariant-loop-key
invariant-loop-key l =
    each (sort_key l.scope l.list) l.keys ≡ and_then (each (sort_key l.scope l.list) (drop l.key-index l.keys)) (λ more. Ok (map key_seen l.sorters ++ more))
