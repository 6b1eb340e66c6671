use Rattle.std.proofs.Common.{◌≡◌, ◌-◌, ◌^◌, take, length}
use Rattle.std.specs.Prelude.{min}
use Rattle.std.specs.List.{flat_map}
use Rattle.schema_model.specs.SchemaBytes.{index_bytes}
use Rattle.plain_schemas.proofs.sizes.indexes_size.Given as goal

abbrev pub invariant-loop-index : goal.invariant-loop-index
invariant-loop-index l =
    l.size ≡ min (length (flat_map index_bytes (take l.index-index l.indexes))) (2 ^ 64 - 1)
