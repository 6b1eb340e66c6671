use Rattle.std.proofs.Common.{◌≡◌, ◌++◌, map}
use Rattle.conflict_tables.specs.Conflicts.{edit_of}
use Rattle.conflict_tables.proofs.reading.edits_of.Given as goal

abbrev pub invariant-loop-entry : goal.invariant-loop-entry
invariant-loop-entry l = record {
  can : (goal.iterator-loop-entry).can_next l.entry-iterator;
  finite : (goal.iterator-loop-entry).is_finite l.entry-iterator;
  rest : l.edits ++ map edit_of l.entry-iterator.rest.items ≡ map edit_of l.fn.list.items;
}
