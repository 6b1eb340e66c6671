use Rattle.std.proofs.Common.{◌≡◌, ◌++◌, drop}
use Rattle.system_tables.specs.Changes.{names_in}
use Rattle.system_tables.proofs.names.copies.Given as goal

abbrev pub invariant-loop-named : goal.invariant-loop-named
invariant-loop-named l = l.names.items ++ names_in (drop l.named-index l.tables) ≡ names_in l.tables
