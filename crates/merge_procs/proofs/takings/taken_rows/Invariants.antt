use Rattle.std.proofs.Common.{◌≡◌, ◌++◌, List, drop}
use Rattle.schema_model.specs.PlainTables.{Conflict}
use Rattle.merge_procs.specs.Resolving.{AreTakings, theirs_of}
use Rattle.merge_procs.proofs.takings.taken_rows.Given as goal

abbrev pub invariant-loop-edit : goal.invariant-loop-edit
invariant-loop-edit l = (conflicts : List Conflict) → AreTakings l.schema l.edits conflicts → l.rows ++ theirs_of (drop l.edit-index conflicts) ≡ theirs_of conflicts
