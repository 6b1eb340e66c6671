use Rattle.std.proofs.Common.{◌≡◌, ◌++◌, drop, map}
use Rattle.plain_sql.specs.Plans.{scope_column}
use Rattle.session_txn.proofs.deleting.scope_of.Given as goal

abbrev pub invariant-loop-column : goal.invariant-loop-column
invariant-loop-column l = l.scope ++ map (scope_column l.source) (drop l.column-index l.columns) ≡ map (scope_column l.source) l.columns
