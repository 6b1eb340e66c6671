use Rattle.std.proofs.Common.{◌≡◌, ◌++◌}
use Rattle.system_tables.specs.Entries.{rows_of}
use Rattle.system_tables.proofs.entries.rows_of.Given as goal

abbrev pub invariant-loop-entry : goal.invariant-loop-entry
invariant-loop-entry l = record {
  can : (goal.iterator-loop-entry).can_next l.entry-iterator;
  finite : (goal.iterator-loop-entry).is_finite l.entry-iterator;
  rest : l.rows ++ rows_of l.entry-iterator.rest.items ≡ rows_of l.fn.entries;
}
