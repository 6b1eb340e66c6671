use Rattle.std.proofs.Common.{◌≡◌, ◌++◌, drop}
use Rattle.std.specs.List.{flat_map}
use Rattle.plain_schemas.specs.Made.{indexes_in}
use Rattle.plain_schemas.proofs.naming.index_parts.Given as goal

abbrev pub invariant-loop-element : goal.invariant-loop-element
invariant-loop-element l =
    flat_map indexes_in l.elements ≡ l.parts ++ flat_map indexes_in (drop l.element-index l.elements)
