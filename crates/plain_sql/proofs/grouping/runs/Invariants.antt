use Rattle.std.proofs.Common.{◌≡◌, ◌++◌, []}
use Rattle.plain_sql.specs.Runs.{places_cmp, runs_from}
use Rattle.plain_sql.proofs.grouping.runs.Given as goal

abbrev pub invariant-loop-row : goal.invariant-loop-row
invariant-loop-row l = record {
  can : (goal.iterator-loop-row).can_next l.row-iterator;
  finite : (goal.iterator-loop-row).is_finite l.row-iterator;
  rest : runs_from (places_cmp l.places) [] l.fn.rows.items ≡ l.runs ++ runs_from (places_cmp l.places) l.run l.row-iterator.rest.items;
}
