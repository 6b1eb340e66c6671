use Rattle.std.proofs.Common.{◌≡◌, ◌≤◌, ◌+◌, ◌-◌, drop, length, ◌++◌}
use Rattle.sql_write.specs.Differences.{row_edits}
use Rattle.sql_write.proofs.differences.walked.Given as goal

abbrev pub invariant-rows : goal.invariant-rows
invariant-rows l = record {
  row_within : l.row_at ≤ length l.old;
  other_within : l.other_at ≤ length l.new;
  left : l.edits.items ++ row_edits l.schema (drop l.row_at l.old) (drop l.other_at l.new) ≡ row_edits l.schema l.old l.new;
}

abbrev pub decreases-rows : goal.decreases-rows
decreases-rows l = (length l.old - l.row_at) + (length l.new - l.other_at)
