use Rattle.std.proofs.Common.{◌≡◌, ◌++◌, drop}
use Rattle.system_tables.proofs.cells.push_cells.Given as goal

abbrev pub invariant-loop-value : goal.invariant-loop-value
invariant-loop-value l = l.row ++ drop l.value-index l.cells ≡ l.fn.row ++ l.cells
