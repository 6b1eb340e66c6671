use Rattle.std.proofs.Common.{◌≡◌, ◌++◌, drop}
use Rattle.plain_schemas.specs.Made.{unique_places}
use Rattle.plain_schemas.proofs.making.unique_places.Given as goal

abbrev pub invariant-loop-part : goal.invariant-loop-part
invariant-loop-part l =
    unique_places l.columns l.parts ≡ l.lists ++ unique_places l.columns (drop l.part-index l.parts)
