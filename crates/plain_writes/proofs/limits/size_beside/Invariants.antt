use Rattle.std.proofs.Common.{◌≡◌, ◌≤◌, ◌+◌, ◌-◌, ◌^◌, drop, length}
use Rattle.std.specs.Prelude.{min}
use Rattle.tuple_codec.specs.RowBytes.{row_bytes}
use Rattle.schema_model.specs.PlainTables.{unkeyed_from}
use Rattle.plain_writes.proofs.limits.size_beside.Given as goal

abbrev pub invariant-loop-position : goal.invariant-loop-position
invariant-loop-position l = record {
  bound : l.size ≤ 2 ^ 64 - 1;
  left : min (length (row_bytes (unkeyed_from l.key 0 l.row))) (2 ^ 64 - 1) ≡ min (l.size + length (row_bytes (unkeyed_from l.key l.position (drop l.position l.row)))) (2 ^ 64 - 1);
}
