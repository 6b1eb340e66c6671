use Rattle.std.proofs.Common.{◌≡◌, ◌++◌, drop, map}
use Rattle.plain_schemas.specs.Altered.{index_without}
use Rattle.plain_schemas.proofs.changing.indexes_without.Given as goal

abbrev pub invariant-loop-index : goal.invariant-loop-index
invariant-loop-index l =
    map (index_without l.gone) l.indexes ≡ l.moved ++ map (index_without l.gone) (drop l.index-index l.indexes)
