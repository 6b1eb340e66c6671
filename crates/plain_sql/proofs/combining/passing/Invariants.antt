use Rattle.std.proofs.Common.{◌≡◌, ◌++◌, map, Ok}
use Rattle.expr_eval.specs.Binding.{and_then}
use Rattle.plain_sql.specs.Answers.{kept}
use Rattle.plain_sql.specs.Plans.{meaning}
use Rattle.plain_sql.proofs.combining.passing.Given as goal

abbrev pub invariant-loop-row : goal.invariant-loop-row
invariant-loop-row l = record {
  can : (goal.iterator-loop-row).can_next l.row-iterator;
  finite : (goal.iterator-loop-row).is_finite l.row-iterator;
  rest : kept (map meaning l.tests) l.fn.rows.items ≡ and_then (kept (map meaning l.tests) l.row-iterator.rest.items) (λ more. Ok (l.kept ++ more));
}
