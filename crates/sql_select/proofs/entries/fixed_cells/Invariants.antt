use Rattle.std.proofs.Common.{take}
use Rattle.std.specs.List.{AllZip}
use Rattle.sql_ast.specs.declared.expressions.Comparison.TheVariants as op
use Rattle.sql_select.specs.Parts.{IsFixed}
use Rattle.sql_select.proofs.entries.fixed_cells.Given as goal

abbrev pub invariant-loop-place : goal.invariant-loop-place
invariant-loop-place l = AllZip (IsFixed l.schema l.first l.rest op.Equal) (take l.place-index l.places) l.cells
