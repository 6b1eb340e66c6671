use Rattle.std.proofs.Common.{◌≡◌, ◌++◌, drop, map}
use Rattle.plain_schemas.specs.Altered.{moved_up}
use Rattle.plain_schemas.proofs.changing.all_moved.Given as goal

abbrev pub invariant-loop-place : goal.invariant-loop-place
invariant-loop-place l =
    map (moved_up l.gone) l.places ≡ l.moved ++ map (moved_up l.gone) (drop l.place-index l.places)
