use Rattle.std.proofs.Common.{◌≡◌, ◌++◌, drop, filter, map}
use Rattle.plain_writes.specs.Seen.{broken_seen}
use Rattle.plain_writes.specs.Violations.{breaks_not_null, of_column, violation}
use Rattle.plain_writes.proofs.violating.of_column.Given as goal

abbrev pub invariant-loop-row : goal.invariant-loop-row
invariant-loop-row l =
    of_column l.schema l.rows (l.place, l.column)
    ≡ map broken_seen l.found ++ map (violation l.schema 4 l.column.name) (filter (breaks_not_null l.place) (drop l.row-index l.rows))
