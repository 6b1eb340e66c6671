use Rattle.std.proofs.Common.{◌≡◌, ◌++◌, drop}
use Rattle.plain_schemas.specs.Lists.{kinds_at}
use Rattle.plain_schemas.proofs.columns.kinds_at.Given as goal

abbrev pub invariant-loop-place : goal.invariant-loop-place
invariant-loop-place l =
    kinds_at l.columns l.places ≡ l.kinds ++ kinds_at l.columns (drop l.place-index l.places)
