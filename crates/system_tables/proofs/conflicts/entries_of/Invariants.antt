use Rattle.std.proofs.Common.{◌≡◌, ◌++◌, List, drop, map}
use Rattle.schema_model.specs.PlainTables.{Conflict}
use Rattle.system_tables.specs.Entries.{AreConflictsOf, conflict_entry}
use Rattle.system_tables.proofs.conflicts.entries_of.Given as goal

abbrev pub invariant-loop-entry : goal.invariant-loop-entry
invariant-loop-entry l =
    (conflicts : List Conflict) → AreConflictsOf l.schema l.list conflicts
    → l.entries ++ map (conflict_entry l.schema) (drop l.entry-index conflicts) ≡ map (conflict_entry l.schema) conflicts
