use Rattle.std.proofs.Common.{◌≡◌, length}
use Rattle.table_root.specs.Databases.{names_rise}
use Rattle.table_root.proofs.databases.names_rise.Given as goal

abbrev pub invariant-tables : goal.invariant-tables
invariant-tables l = names_rise l.tables ≡ names_rise l.left

abbrev pub decreases-tables : goal.decreases-tables
decreases-tables l = length l.left
