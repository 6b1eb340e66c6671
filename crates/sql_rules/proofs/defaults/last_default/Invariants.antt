use Rattle.std.proofs.Common.{◌≡◌, drop, None}
use Rattle.sql_rules.specs.Defaults.{default_after}
use Rattle.sql_rules.proofs.defaults.last_default.Given as goal

-- what the attributes so far say, and those that are left
abbrev pub invariant-loop-attribute : goal.invariant-loop-attribute
invariant-loop-attribute l = default_after l.kind l.not_null l.last (drop l.attribute-index l.attributes) ≡ default_after l.kind l.not_null None l.attributes
