use Rattle.std.proofs.Common.{◌≡◌, ◌++◌, drop}
use Rattle.plain_schemas.specs.Made.{checks_named}
use Rattle.plain_schemas.proofs.naming.checks_named.Given as goal

abbrev pub invariant-loop-element : goal.invariant-loop-element
invariant-loop-element l =
    checks_named l.made l.elements ≡ l.checks ++ checks_named l.left (drop l.element-index l.elements)
