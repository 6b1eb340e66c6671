use Rattle.std.proofs.Common.{◌≡◌, ◌-◌, ◌++◌}
use Rattle.std.specs.Vec.Iter.{into_iter_items}
use Rattle.table_root.specs.Places.{joined_from}
use Rattle.table_root.proofs.cells.joined.Given as goal

abbrev pub invariant-loop-position : goal.invariant-loop-position
invariant-loop-position l = l.row ++ joined_from l.key l.cells l.position (l.columns - l.position) (into_iter_items l.others) ≡ joined_from l.key l.cells 0 l.columns l.fn.others
