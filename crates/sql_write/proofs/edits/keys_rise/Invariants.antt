use Rattle.std.proofs.Common.{◌≡◌, length}
use Rattle.schema_model.specs.PlainTables.{rises}
use Rattle.sql_write.specs.Inserting.{edit_order}
use Rattle.sql_write.proofs.edits.keys_rise.Given as goal

abbrev pub invariant-pairs : goal.invariant-pairs
invariant-pairs l = rises edit_order l.edits ≡ rises edit_order l.left

abbrev pub decreases-pairs : goal.decreases-pairs
decreases-pairs l = length l.left
