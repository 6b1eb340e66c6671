use Rattle.std.proofs.Common.{◌≡◌, ◌++◌}
use Rattle.plain_sql.proofs.lists.append.Given as goal

abbrev pub invariant-loop-item : goal.invariant-loop-item
invariant-loop-item g l = record {
  can : ((goal.iterator-loop-item) g).can_next l.item-iterator;
  finite : ((goal.iterator-loop-item) g).is_finite l.item-iterator;
  rest : l.fn.items ++ l.fn.more ≡ l.items ++ l.item-iterator.rest.items;
}
