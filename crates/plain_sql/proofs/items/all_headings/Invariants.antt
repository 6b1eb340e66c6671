use Rattle.std.proofs.Common.{◌≡◌, ◌++◌, map, drop, Ok}
use Rattle.std.specs.List.{enumerate_from}
use Rattle.expr_eval.specs.Binding.{and_then}
use Rattle.plain_sql.specs.Lists.{each}
use Rattle.plain_sql.specs.Plans.{all_headings, column_heading}
use Rattle.plain_sql.specs.Seen.{heading_seen}
use Rattle.plain_sql.proofs.items.all_headings.Given as goal

abbrev pub invariant-loop-place : goal.invariant-loop-place
invariant-loop-place l =
    all_headings l.scope
    ≡ and_then (each (column_heading l.scope) (enumerate_from l.place (drop l.place l.scope))) (λ more. Ok (map heading_seen l.headings ++ more))
