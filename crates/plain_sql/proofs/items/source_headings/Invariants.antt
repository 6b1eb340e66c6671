use Rattle.std.proofs.Common.{◌≡◌, ◌++◌, map, drop, Ok}
use Rattle.std.specs.List.{enumerate_from}
use Rattle.expr_eval.specs.Binding.{and_then}
use Rattle.plain_sql.specs.Lists.{all_of}
use Rattle.plain_sql.specs.Plans.{source_headings, heading_in}
use Rattle.plain_sql.specs.Seen.{heading_seen}
use Rattle.plain_sql.proofs.items.source_headings.Given as goal

abbrev pub invariant-loop-place : goal.invariant-loop-place
invariant-loop-place l =
    source_headings l.scope l.source
    ≡ and_then (all_of (heading_in l.scope l.source) (enumerate_from l.place (drop l.place l.scope))) (λ more. Ok (map heading_seen l.headings ++ more))
