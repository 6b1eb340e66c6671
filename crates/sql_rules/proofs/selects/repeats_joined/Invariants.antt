use Rattle.std.proofs.Common.{◌≡◌, drop}
use Rattle.sql_rules.specs.Names.{repeats_by}
use Rattle.sql_rules.specs.Selects.{joined_name}
use Rattle.sql_rules.proofs.selects.repeats_joined.Given as goal

-- the sources that are left decide
abbrev pub invariant-loop-at : goal.invariant-loop-at
invariant-loop-at l = repeats_by joined_name (drop l.at l.joins) ≡ repeats_by joined_name l.joins
