use Rattle.std.proofs.Common.{◌≡◌, ◌++◌, drop, Ok}
use Rattle.expr_eval.specs.Binding.{and_then}
use Rattle.plain_sql.specs.Answers.{ranked}
use Rattle.plain_sql.specs.Lists.{each}
use Rattle.plain_sql.specs.Seen.{plan_seen}
use Rattle.plain_sql.proofs.answering.all_ranked.Given as goal

abbrev pub invariant-loop-rows : goal.invariant-loop-rows
invariant-loop-rows l =
    each (ranked (plan_seen l.plan)) l.groups ≡ and_then (each (ranked (plan_seen l.plan)) (drop l.rows-index l.groups)) (λ more. Ok (l.ranks ++ more))
