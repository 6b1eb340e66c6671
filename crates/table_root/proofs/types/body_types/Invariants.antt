use Rattle.std.proofs.Common.{◌≡◌, ◌++◌, drop}
use Rattle.schema_model.specs.PlainTables.{unkeyed_types}
use Rattle.table_root.proofs.types.body_types.Given as goal

abbrev pub invariant-loop-position : goal.invariant-loop-position
invariant-loop-position l = l.types.items ++ unkeyed_types l.key l.position (drop l.position l.column-items) ≡ unkeyed_types l.key 0 l.column-items
