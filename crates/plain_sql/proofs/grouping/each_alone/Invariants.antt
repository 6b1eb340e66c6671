use Rattle.std.proofs.Common.{◌≡◌, ◌++◌, ◌∷◌, [], map}
use Rattle.plain_sql.proofs.grouping.each_alone.Given as goal

abbrev pub invariant-loop-row : goal.invariant-loop-row
invariant-loop-row l = record {
  can : (goal.iterator-loop-row).can_next l.row-iterator;
  finite : (goal.iterator-loop-row).is_finite l.row-iterator;
  rest : map (λ row. row ∷ []) l.fn.rows.items ≡ l.groups ++ map (λ row. row ∷ []) l.row-iterator.rest.items;
}
