use Rattle.std.proofs.Common.{◌≡◌, ◌++◌, map, drop}
use Rattle.sql_select.specs.Sources.{typed_column}
use Rattle.sql_select.proofs.reading.typed_columns.Given as goal

abbrev pub invariant-loop-column : goal.invariant-loop-column
invariant-loop-column l = map typed_column l.columns ≡ l.found ++ map typed_column (drop l.column-index l.columns)
