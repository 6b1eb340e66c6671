use Rattle.std.proofs.Common.{◌≡◌, ◌++◌, drop}
use Rattle.script_text.specs.Output.{row_lines}
use Rattle.script_text.proofs.printing.push_rows.Given as goal

abbrev pub invariant-loop-row : goal.invariant-loop-row
invariant-loop-row l = l.out.items ++ row_lines l.kinds (drop l.row-index l.rows) ≡ l.fn.out.items ++ row_lines l.kinds l.rows
