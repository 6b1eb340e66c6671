use Rattle.std.proofs.Common.{◌≡◌, ◌++◌, drop}
use Rattle.plain_schemas.specs.Made.{indexes_named}
use Rattle.plain_schemas.proofs.naming.indexes_named.Given as goal

abbrev pub invariant-loop-part : goal.invariant-loop-part
invariant-loop-part l =
    indexes_named l.columns l.made l.parts ≡ l.indexes ++ indexes_named l.columns l.left (drop l.part-index l.parts)
