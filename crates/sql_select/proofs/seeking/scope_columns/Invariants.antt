use Rattle.std.proofs.Common.{◌≡◌, ◌++◌, map, drop}
use Rattle.plain_sql.specs.Plans.{scope_column}
use Rattle.sql_select.specs.Sources.{typed_column}
use Rattle.sql_select.proofs.seeking.scope_columns.Given as goal

abbrev pub invariant-loop-column : goal.invariant-loop-column
invariant-loop-column l =
    map (scope_column l.source) (map typed_column l.columns) ≡ l.found ++ map (scope_column l.source) (map typed_column (drop l.column-index l.columns))
