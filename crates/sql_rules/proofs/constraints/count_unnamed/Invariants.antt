use Rattle.std.proofs.Common.{◌≡◌, take}
use Rattle.std.specs.List.{sum_by}
use Rattle.sql_rules.specs.Constraints.{unnamed_in}
use Rattle.sql_rules.proofs.constraints.count_unnamed.Given as goal

abbrev pub invariant-loop-element : goal.invariant-loop-element
invariant-loop-element l = l.count ≡ sum_by (unnamed_in l.sort) (take l.element-index l.elements)
