use Rattle.std.proofs.Common.{◌≡◌, ◌++◌, drop, map}
use Rattle.plain_schemas.specs.Altered.{foreign_without}
use Rattle.plain_schemas.proofs.changing.foreign_keys_without.Given as goal

abbrev pub invariant-loop-key : goal.invariant-loop-key
invariant-loop-key l =
    map (foreign_without l.gone) l.foreign ≡ l.moved ++ map (foreign_without l.gone) (drop l.key-index l.foreign)
