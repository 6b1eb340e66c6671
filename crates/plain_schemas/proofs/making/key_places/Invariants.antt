use Rattle.std.proofs.Common.{◌≡◌, ◌++◌, drop}
use Rattle.std.specs.List.{flat_map}
use Rattle.plain_schemas.specs.Made.{key_in}
use Rattle.plain_schemas.proofs.making.key_places.Given as goal

abbrev pub invariant-loop-element : goal.invariant-loop-element
invariant-loop-element l =
    flat_map (key_in l.columns) l.elements ≡ l.found ++ flat_map (key_in l.columns) (drop l.element-index l.elements)
