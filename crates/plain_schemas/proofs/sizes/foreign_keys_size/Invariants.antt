use Rattle.std.proofs.Common.{◌≡◌, ◌-◌, ◌^◌, take, length}
use Rattle.std.specs.Prelude.{min}
use Rattle.std.specs.List.{flat_map}
use Rattle.schema_model.specs.SchemaBytes.{foreign_bytes}
use Rattle.plain_schemas.proofs.sizes.foreign_keys_size.Given as goal

abbrev pub invariant-loop-key : goal.invariant-loop-key
invariant-loop-key l =
    l.size ≡ min (length (flat_map foreign_bytes (take l.key-index l.foreign))) (2 ^ 64 - 1)
