use Rattle.std.proofs.Common.{◌≡◌, ◌++◌, drop}
use Rattle.system_tables.specs.Changes.{all_changed_rows}
use Rattle.system_tables.proofs.changes.changed_rows.Given as goal

abbrev pub invariant-loop-name : goal.invariant-loop-name
invariant-loop-name l = l.rows ++ all_changed_rows l.head l.staged l.working (drop l.name-index l.names) ≡ all_changed_rows l.head l.staged l.working l.names
