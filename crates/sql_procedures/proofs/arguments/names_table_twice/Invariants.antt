use Rattle.std.proofs.Common.{◌≡◌, drop}
use Rattle.sql_procedures.specs.Arguments.{repeats_table}
use Rattle.sql_procedures.proofs.arguments.names_table_twice.Given as goal

-- the arguments that are left decide
abbrev pub invariant-loop-at : goal.invariant-loop-at
invariant-loop-at l = repeats_table (drop l.at l.arguments) ≡ repeats_table l.arguments
