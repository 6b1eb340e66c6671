use Rattle.std.proofs.Common.{◌≡◌, ◌-◌, ◌^◌, take, length}
use Rattle.std.specs.Prelude.{min}
use Rattle.std.specs.List.{flat_map}
use Rattle.schema_model.specs.SchemaBytes.{check_bytes}
use Rattle.plain_schemas.proofs.sizes.checks_size.Given as goal

abbrev pub invariant-loop-check : goal.invariant-loop-check
invariant-loop-check l =
    l.size ≡ min (length (flat_map check_bytes (take l.check-index l.checks))) (2 ^ 64 - 1)
