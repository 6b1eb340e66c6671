use Rattle.std.proofs.Common.{◌≡◌, take}
use Rattle.std.specs.Prelude.{map}
use Rattle.schema_merge.specs.Projecting.{projected_cell}
use Rattle.schema_merge.proofs.projecting.project.Given as goal

abbrev pub invariant-loop-column : goal.invariant-loop-column
invariant-loop-column l = l.out ≡ map (projected_cell l.from l.row) (take l.column-index l.to.columns)
