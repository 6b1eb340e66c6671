use Rattle.std.proofs.Common.{◌≡◌, drop}
use Rattle.std.specs.List.{list_all}
use Rattle.schema_model.specs.Limits.{is_row_within_limits}
use Rattle.root_merge.proofs.tables.are_short.Given as goal

abbrev pub invariant-loop-row : goal.invariant-loop-row
invariant-loop-row l = list_all (is_row_within_limits l.schema) (drop l.row-index l.rows) ≡ list_all (is_row_within_limits l.schema) l.rows
