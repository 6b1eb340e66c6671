use Rattle.std.proofs.Common.{◌≡◌, ◌++◌, drop}
use Rattle.plain_schemas.specs.Made.{foreign_named}
use Rattle.plain_schemas.proofs.naming.foreign_named.Given as goal

abbrev pub invariant-loop-element : goal.invariant-loop-element
invariant-loop-element l =
    foreign_named l.columns l.made l.elements ≡ l.foreign ++ foreign_named l.columns l.left (drop l.element-index l.elements)
