use Rattle.std.proofs.Common.{◌≡◌, ◌++◌, drop, map}
use Rattle.std.specs.List.{enumerate_from, flat_map}
use Rattle.plain_writes.specs.Seen.{broken_seen}
use Rattle.plain_writes.specs.Violations.{of_column}
use Rattle.plain_writes.proofs.violating.of_columns.Given as goal

abbrev pub invariant-loop-place : goal.invariant-loop-place
invariant-loop-place l =
    flat_map (of_column l.schema l.rows) (enumerate_from 0 l.schema.columns)
    ≡ map broken_seen l.found ++ flat_map (of_column l.schema l.rows) (enumerate_from l.place (drop l.place l.columns))
