use Rattle.std.proofs.Common.{◌≡◌, ◌++◌, drop}
use Rattle.std.specs.List.{flat_map, slice_get}
use Rattle.schema_model.specs.PlainTables.{kinds}
use Rattle.sql_select.proofs.span_reading.types_at.Given as goal

abbrev pub invariant-loop-position : goal.invariant-loop-position
invariant-loop-position l =
    l.types.items ++ flat_map (λ position. kinds (slice_get l.columns position)) (drop l.position-index l.positions)
    ≡ flat_map (λ position. kinds (slice_get l.columns position)) l.positions
