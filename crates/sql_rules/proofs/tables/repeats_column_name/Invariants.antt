use Rattle.std.proofs.Common.{◌≡◌, drop}
use Rattle.sql_rules.specs.Tables.{column_name, repeats_given}
use Rattle.sql_rules.proofs.tables.repeats_column_name.Given as goal

-- the elements that are left decide
abbrev pub invariant-loop-at : goal.invariant-loop-at
invariant-loop-at l = repeats_given column_name (drop l.at l.elements) ≡ repeats_given column_name l.elements
