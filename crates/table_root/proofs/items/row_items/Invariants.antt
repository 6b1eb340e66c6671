use Rattle.std.proofs.Common.{◌≡◌, ◌++◌, true, drop, map}
use Rattle.std.specs.List.{list_all}
use Rattle.node_format.specs.Views.{leaf_of}
use Rattle.schema_model.specs.PlainTables.{is_row, row_item}
use Rattle.table_root.proofs.items.row_items.Given as goal

abbrev pub invariant-loop-row : goal.invariant-loop-row
invariant-loop-row l = record {
  fit : list_all (is_row l.schema) (drop l.row-index l.rows) ≡ true;
  left : map leaf_of l.items.items ++ map (row_item l.schema) (drop l.row-index l.rows) ≡ map (row_item l.schema) l.rows;
}
