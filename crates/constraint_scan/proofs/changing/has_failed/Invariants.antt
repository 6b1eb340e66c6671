use Rattle.std.proofs.Common.{◌≡◌, drop}
use Rattle.std.specs.List.{list_any}
use Rattle.std.specs.Option.{option_map}
use Rattle.plain_sql.specs.Plans.{meaning}
use Rattle.plain_writes.specs.Violations.{breaks_check}
use Rattle.constraint_scan.proofs.changing.has_failed.Given as goal

abbrev pub invariant-loop-row : goal.invariant-loop-row
invariant-loop-row l =
    list_any (breaks_check (option_map meaning l.check)) (drop l.row-index l.rows) ≡ list_any (breaks_check (option_map meaning l.check)) l.rows
