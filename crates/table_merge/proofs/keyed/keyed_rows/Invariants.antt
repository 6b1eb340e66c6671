use Rattle.std.proofs.Common.{◌≡◌, map, take}
use Rattle.schema_merge.specs.Projecting.{projected}
use Rattle.table_merge.specs.Walking.{keyed_rows}
use Rattle.table_merge.proofs.keyed.keyed_rows.Given as goal

abbrev pub invariant-loop-old : goal.invariant-loop-old
invariant-loop-old l = l.keyed.items ≡ keyed_rows l.to (map (projected l.from l.to) (take l.old-index l.rows))
