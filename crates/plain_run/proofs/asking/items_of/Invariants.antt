use Rattle.std.proofs.Common.{◌≡◌, ◌++◌, drop, map}
use Rattle.plain_run.specs.Asking.{item_of}
use Rattle.plain_run.proofs.asking.items_of.Given as goal

abbrev pub invariant-loop-moment : goal.invariant-loop-moment
invariant-loop-moment l = l.items ++ map (item_of l.names) (drop l.moment-index l.order) ≡ map (item_of l.names) l.order
