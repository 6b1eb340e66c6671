use Rattle.std.proofs.Common.{◌≡◌, ◌++◌, drop, filter, map}
use Rattle.std.specs.Option.{option_map}
use Rattle.plain_sql.specs.Plans.{meaning}
use Rattle.plain_writes.specs.Seen.{broken_seen}
use Rattle.plain_writes.specs.Violations.{breaks_check, broken, violation}
use Rattle.plain_writes.proofs.violating.broken_by.Given as goal

abbrev pub invariant-loop-row : goal.invariant-loop-row
invariant-loop-row l =
    broken l.schema l.rows 3 l.check.name (breaks_check (option_map meaning l.said))
    ≡ map broken_seen l.found ++ map (violation l.schema 3 l.check.name) (filter (breaks_check (option_map meaning l.said)) (drop l.row-index l.rows))
