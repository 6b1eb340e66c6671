use Rattle.std.proofs.Common.{◌≡◌, drop}
use Rattle.sql_rules.specs.Names.{repeats}
use Rattle.sql_rules.proofs.names.repeats_name.Given as goal

-- the names that are left decide
abbrev pub invariant-loop-at : goal.invariant-loop-at
invariant-loop-at l = repeats (drop l.at l.names) ≡ repeats l.names
