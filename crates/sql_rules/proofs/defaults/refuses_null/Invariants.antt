use Rattle.std.proofs.Common.{◌≡◌, drop, false}
use Rattle.sql_rules.specs.Defaults.{refuses_null_after}
use Rattle.sql_rules.proofs.defaults.refuses_null.Given as goal

-- what the attributes so far say, and those that are left
abbrev pub invariant-loop-attribute : goal.invariant-loop-attribute
invariant-loop-attribute l = refuses_null_after l.refuses (drop l.attribute-index l.attributes) ≡ refuses_null_after false l.attributes
