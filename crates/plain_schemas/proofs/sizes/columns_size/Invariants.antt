use Rattle.std.proofs.Common.{◌≡◌, ◌-◌, ◌^◌, take, length}
use Rattle.std.specs.Prelude.{min}
use Rattle.std.specs.List.{flat_map}
use Rattle.schema_model.specs.SchemaBytes.{column_bytes}
use Rattle.plain_schemas.proofs.sizes.columns_size.Given as goal

abbrev pub invariant-loop-column : goal.invariant-loop-column
invariant-loop-column l =
    l.size ≡ min (length (flat_map column_bytes (take l.column-index l.columns))) (2 ^ 64 - 1)
