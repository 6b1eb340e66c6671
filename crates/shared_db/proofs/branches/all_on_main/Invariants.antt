use Rattle.std.proofs.Common.{◌≡◌, ◌++◌, map, drop}
use Rattle.shared_db.specs.Members.{on_main}
use Rattle.shared_db.proofs.branches.all_on_main.Given as goal

abbrev pub invariant-loop-number : goal.invariant-loop-number
invariant-loop-number l = l.members.items ++ map on_main (drop l.number-index l.statements) ≡ map on_main l.statements
