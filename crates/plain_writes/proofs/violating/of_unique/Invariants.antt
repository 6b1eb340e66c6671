use Rattle.std.proofs.Common.{◌≡◌, ◌++◌, drop, filter, map}
use Rattle.plain_writes.specs.Seen.{broken_seen}
use Rattle.plain_writes.specs.Violations.{breaks_unique, broken, violation}
use Rattle.plain_writes.proofs.violating.of_unique.Given as goal

abbrev pub invariant-loop-row : goal.invariant-loop-row
invariant-loop-row l =
    broken l.schema l.rows 2 l.index.name (breaks_unique l.schema l.sorted l.index.columns)
    ≡ map broken_seen l.found ++ map (violation l.schema 2 l.index.name) (filter (breaks_unique l.schema l.sorted l.index.columns) (drop l.row-index l.rows))
