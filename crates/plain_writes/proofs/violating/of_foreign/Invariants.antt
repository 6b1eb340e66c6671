use Rattle.std.proofs.Common.{◌≡◌, ◌++◌, drop, filter, map}
use Rattle.plain_writes.specs.Seen.{broken_seen}
use Rattle.plain_writes.specs.Violations.{breaks_foreign, broken, violation}
use Rattle.plain_writes.proofs.violating.of_foreign.Given as goal

abbrev pub invariant-loop-row : goal.invariant-loop-row
invariant-loop-row l =
    broken l.schema l.rows 1 l.foreign.name (breaks_foreign l.keys l.foreign.columns)
    ≡ map broken_seen l.found ++ map (violation l.schema 1 l.foreign.name) (filter (breaks_foreign l.keys l.foreign.columns) (drop l.row-index l.rows))
