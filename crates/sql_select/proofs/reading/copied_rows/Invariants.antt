use Rattle.std.proofs.Common.{◌≡◌, ◌++◌, drop}
use Rattle.sql_select.proofs.reading.copied_rows.Given as goal

abbrev pub invariant-loop-row : goal.invariant-loop-row
invariant-loop-row l = l.rows ≡ l.copies ++ drop l.row-index l.rows
