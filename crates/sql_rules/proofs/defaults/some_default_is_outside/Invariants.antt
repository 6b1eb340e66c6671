use Rattle.std.proofs.Common.{◌≡◌, drop}
use Rattle.std.specs.List.{list_any}
use Rattle.sql_rules.specs.Defaults.{has_outside_default}
use Rattle.sql_rules.proofs.defaults.some_default_is_outside.Given as goal

-- the elements that are left decide
abbrev pub invariant-loop-element : goal.invariant-loop-element
invariant-loop-element l = list_any (has_outside_default l.elements) (drop l.element-index l.elements) ≡ list_any (has_outside_default l.elements) l.elements
