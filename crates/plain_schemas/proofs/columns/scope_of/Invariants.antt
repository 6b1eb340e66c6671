use Rattle.std.proofs.Common.{◌≡◌, ◌++◌, drop, map}
use Rattle.plain_schemas.specs.Lists.{scope_column}
use Rattle.plain_schemas.proofs.columns.scope_of.Given as goal

abbrev pub invariant-loop-column : goal.invariant-loop-column
invariant-loop-column l =
    map (scope_column l.name) l.columns ≡ l.scope ++ map (scope_column l.name) (drop l.column-index l.columns)
