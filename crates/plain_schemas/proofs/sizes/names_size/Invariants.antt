use Rattle.std.proofs.Common.{◌≡◌, ◌-◌, ◌^◌, take, length}
use Rattle.std.specs.Prelude.{min}
use Rattle.std.specs.List.{flat_map}
use Rattle.tuple_codec.specs.Fields.{short}
use Rattle.plain_schemas.proofs.sizes.names_size.Given as goal

abbrev pub invariant-loop-name : goal.invariant-loop-name
invariant-loop-name l =
    l.size ≡ min (length (flat_map short (take l.name-index l.names))) (2 ^ 64 - 1)
