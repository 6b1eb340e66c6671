use Rattle.std.proofs.Common.{◌≡◌, ◌++◌, drop}
use Rattle.plain_schemas.specs.Made.{marked_indexes}
use Rattle.plain_schemas.proofs.naming.marked_indexes.Given as goal

abbrev pub invariant-loop-attribute : goal.invariant-loop-attribute
invariant-loop-attribute l =
    marked_indexes l.column.name l.attributes ≡ l.parts ++ marked_indexes l.column.name (drop l.attribute-index l.attributes)
