use Rattle.std.proofs.Common.{◌≡◌, ◌++◌, drop}
use Rattle.system_tables.specs.Known.{names_of}
use Rattle.system_tables.proofs.sources.names_of.Given as goal

abbrev pub invariant-loop-column : goal.invariant-loop-column
invariant-loop-column l = names_of l.columns ≡ l.names ++ names_of (drop l.column-index l.columns)
