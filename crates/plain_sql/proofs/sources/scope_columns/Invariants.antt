use Rattle.std.proofs.Common.{◌≡◌, ◌++◌, map, drop}
use Rattle.plain_sql.specs.Plans.{scope_column}
use Rattle.plain_sql.proofs.sources.scope_columns.Given as goal

abbrev pub invariant-loop-column : goal.invariant-loop-column
invariant-loop-column l = map (scope_column l.source) l.columns ≡ l.found ++ map (scope_column l.source) (drop l.column-index l.columns)
