use Rattle.std.proofs.Common.{◌≡◌, ◌++◌, map, drop, Ok}
use Rattle.std.specs.Option.{option_to_list}
use Rattle.expr_eval.specs.Binding.{and_then}
use Rattle.plain_sql.specs.Lists.{each}
use Rattle.plain_sql.specs.Plans.{condition, conditions, meaning}
use Rattle.plain_sql.proofs.planning.tests.Given as goal

abbrev pub invariant-loop-join : goal.invariant-loop-join
invariant-loop-join l =
    each (condition l.scope) (conditions l.query)
    ≡ and_then (each (condition l.scope) (map (λ join. join.on) (drop l.join-index l.joins) ++ option_to_list l.query.clauses.filter)) (λ more. Ok (map meaning l.tests ++ more))
