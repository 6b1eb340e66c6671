use Rattle.std.proofs.Common.{◌≡◌, ◌++◌, map, None, Some}
use Rattle.index_keep.specs.Entries.{row_change}
use Rattle.index_keep.proofs.changes.new_rows.Given as goal

abbrev pub invariant-loop-row : goal.invariant-loop-row
invariant-loop-row l = record {
  can : (goal.iterator-loop-row).can_next l.row-iterator;
  finite : (goal.iterator-loop-row).is_finite l.row-iterator;
  rest : map (λ row. row_change None (Some row)) l.fn.rows ≡ l.changes.items ++ map (λ row. row_change None (Some row)) l.row-iterator.rest.items;
}
