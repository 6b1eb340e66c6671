use Rattle.std.proofs.Common.{◌≡◌, drop}
use Rattle.sql_rules.specs.Names.{repeats_by}
use Rattle.sql_rules.proofs.writes.repeats_column.Given as goal

-- the assignments that are left decide
abbrev pub invariant-loop-at : goal.invariant-loop-at
invariant-loop-at l = repeats_by (λ assignment. assignment.column) (drop l.at l.assignments) ≡ repeats_by (λ assignment. assignment.column) l.assignments
