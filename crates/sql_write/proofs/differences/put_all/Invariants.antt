use Rattle.std.proofs.Common.{◌≡◌, true, drop, ◌++◌, []}
use Rattle.std.specs.List.{list_all}
use Rattle.schema_model.specs.PlainTables.{is_row}
use Rattle.sql_write.specs.Differences.{row_edits}
use Rattle.sql_write.proofs.differences.put_all.Given as goal

abbrev pub invariant-loop-row : goal.invariant-loop-row
invariant-loop-row l = record {
  fit : list_all (is_row l.schema) (drop l.row-index l.rows) ≡ true;
  left : l.edits.items ++ row_edits l.schema [] (drop l.row-index l.rows) ≡ l.initial.edits.items ++ row_edits l.schema [] l.rows;
}
