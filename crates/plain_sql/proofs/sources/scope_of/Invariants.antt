use Rattle.std.proofs.Common.{◌≡◌, ◌++◌, drop}
use Rattle.plain_sql.specs.Plans.{scope_of}
use Rattle.plain_sql.proofs.sources.scope_of.Given as goal

abbrev pub invariant-loop-source : goal.invariant-loop-source
invariant-loop-source l = scope_of l.sources ≡ l.scope ++ scope_of (drop l.source-index l.sources)
