use Rattle.std.proofs.Common.{◌≡◌, ◌++◌, [], map, drop, Ok}
use Rattle.expr_eval.specs.Binding.{and_then}
use Rattle.plain_sql.specs.Lists.{each}
use Rattle.plain_sql.specs.Plans.{one_heading}
use Rattle.plain_sql.specs.Seen.{heading_seen}
use Rattle.plain_sql.proofs.planning.alone_headings.Given as goal

abbrev pub invariant-loop-named : goal.invariant-loop-named
invariant-loop-named l =
    each (one_heading []) l.list ≡ and_then (each (one_heading []) (drop l.named-index l.list)) (λ more. Ok (map heading_seen l.headings ++ more))
