use Rattle.std.proofs.Common.{◌≡◌, ◌++◌, drop}
use Rattle.plain_writes.proofs.copies.copy_rows.Given as goal

abbrev pub invariant-loop-row : goal.invariant-loop-row
invariant-loop-row l = l.rows ≡ l.copy ++ drop l.row-index l.rows
