use Rattle.std.proofs.Common.{◌≡◌, ◌++◌, drop, map, filter}
use Rattle.plain_schemas.proofs.referring.unique_lists.Given as goal

abbrev pub invariant-loop-index : goal.invariant-loop-index
invariant-loop-index l =
    map (λ index. index.columns) (filter (λ index. index.unique) l.indexes)
    ≡ l.lists ++ map (λ index. index.columns) (filter (λ index. index.unique) (drop l.index-index l.indexes))
