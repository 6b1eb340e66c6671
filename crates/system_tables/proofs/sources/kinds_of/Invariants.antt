use Rattle.std.proofs.Common.{◌≡◌, ◌++◌, drop}
use Rattle.system_tables.specs.Known.{kinds_of}
use Rattle.system_tables.proofs.sources.kinds_of.Given as goal

abbrev pub invariant-loop-column : goal.invariant-loop-column
invariant-loop-column l = kinds_of l.columns ≡ l.kinds ++ kinds_of (drop l.column-index l.columns)
