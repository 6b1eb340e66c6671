use Rattle.std.proofs.Common.{◌≡◌, ◌++◌, map, drop, Ok}
use Rattle.expr_eval.specs.Binding.{and_then}
use Rattle.plain_sql.specs.Lists.{each}
use Rattle.plain_sql.specs.Plans.{source_read, sources_of}
use Rattle.plain_sql.proofs.sources.sources_read.Given as goal

abbrev pub invariant-loop-join : goal.invariant-loop-join
invariant-loop-join l =
    each (source_read l.known) (sources_of l.from)
    ≡ and_then (each (source_read l.known) (map (λ join. join.source) (drop l.join-index l.joins))) (λ more. Ok (l.reads ++ more))
