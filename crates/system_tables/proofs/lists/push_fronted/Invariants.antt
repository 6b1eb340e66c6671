use Rattle.std.proofs.Common.{◌≡◌, ◌++◌, drop}
use Rattle.system_tables.specs.Entries.{fronted}
use Rattle.system_tables.proofs.lists.push_fronted.Given as goal

abbrev pub invariant-loop-column : goal.invariant-loop-column
invariant-loop-column l = l.out ++ fronted l.front (drop l.column-index l.columns) ≡ l.fn.out ++ fronted l.front l.columns
