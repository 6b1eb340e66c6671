use Rattle.std.proofs.Common.{◌≡◌, ◌++◌, drop, map}
use Rattle.std.specs.List.{flat_map}
use Rattle.plain_writes.specs.Seen.{broken_seen}
use Rattle.plain_writes.specs.Violations.{checks_by, of_check}
use Rattle.plain_writes.proofs.violating.of_checks.Given as goal

abbrev pub invariant-loop-check : goal.invariant-loop-check
invariant-loop-check g l =
    flat_map (of_check (checks_by g.R.Reads.reading) l.name l.schema l.rows) l.schema.checks
    ≡ map broken_seen l.found ++ flat_map (of_check (checks_by g.R.Reads.reading) l.name l.schema l.rows) (drop l.check-index l.checks)
