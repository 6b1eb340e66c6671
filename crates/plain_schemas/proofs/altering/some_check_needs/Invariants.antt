use Rattle.std.proofs.Common.{◌≡◌, drop}
use Rattle.std.specs.List.{list_any}
use Rattle.plain_writes.specs.Violations.{checks_by}
use Rattle.plain_schemas.specs.Altered.{check_needs}
use Rattle.plain_schemas.proofs.altering.some_check_needs.Given as goal

abbrev pub invariant-loop-check : goal.invariant-loop-check
invariant-loop-check g l =
    list_any (check_needs (checks_by g.R.Reads.reading) l.name l.without) l.checks
    ≡ list_any (check_needs (checks_by g.R.Reads.reading) l.name l.without) (drop l.check-index l.checks)
