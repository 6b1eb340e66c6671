use Rattle.std.proofs.Common.{◌≡◌, ◌++◌, drop}
use Rattle.plain_schemas.specs.Lists.{places}
use Rattle.plain_schemas.proofs.columns.places.Given as goal

abbrev pub invariant-loop-name : goal.invariant-loop-name
invariant-loop-name l =
    places l.columns l.names ≡ l.found ++ places l.columns (drop l.name-index l.names)
