use Rattle.std.proofs.Common.{◌≡◌, ◌++◌, drop}
use Rattle.plain_sql.proofs.sources.push_columns.Given as goal

abbrev pub invariant-loop-column : goal.invariant-loop-column
invariant-loop-column l = l.fn.scope ++ l.columns ≡ l.scope ++ drop l.column-index l.columns
