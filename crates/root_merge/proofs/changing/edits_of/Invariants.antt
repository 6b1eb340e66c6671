use Rattle.std.proofs.Common.{◌≡◌, ◌++◌}
use Rattle.tuple_codec.specs.ByKey.{as_edits}
use Rattle.root_merge.proofs.changing.edits_of.Given as goal

abbrev pub invariant-loop-change : goal.invariant-loop-change
invariant-loop-change l = record {
  can : (goal.iterator-loop-change).can_next l.change-iterator;
  finite : (goal.iterator-loop-change).is_finite l.change-iterator;
  rest : as_edits l.fn.changes.items ≡ l.edits.items ++ as_edits l.change-iterator.rest.items;
}
