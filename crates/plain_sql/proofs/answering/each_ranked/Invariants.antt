use Rattle.std.proofs.Common.{◌≡◌, ◌++◌, ◌∷◌, [], drop, Ok}
use Rattle.expr_eval.specs.Binding.{and_then}
use Rattle.plain_sql.specs.Answers.{ranked}
use Rattle.plain_sql.specs.Lists.{each}
use Rattle.plain_sql.specs.Seen.{plan_seen}
use Rattle.plain_sql.proofs.answering.each_ranked.Given as goal

abbrev pub invariant-loop-row : goal.invariant-loop-row
invariant-loop-row l =
    each (λ row. ranked (plan_seen l.plan) (row ∷ [])) l.rows
    ≡ and_then (each (λ row. ranked (plan_seen l.plan) (row ∷ [])) (drop l.row-index l.rows)) (λ more. Ok (l.ranks ++ more))
