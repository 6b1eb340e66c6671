use Rattle.std.proofs.Common.{◌≡◌, take}
use Rattle.std.specs.List.{sum_by}
use Rattle.sql_rules.specs.Tables.{keys_in}
use Rattle.sql_rules.proofs.tables.count_keys.Given as goal

abbrev pub invariant-loop-element : goal.invariant-loop-element
invariant-loop-element l = l.keys ≡ sum_by keys_in (take l.element-index l.elements)
