use Rattle.std.proofs.Common.{◌≡◌, ◌++◌, map}
use Rattle.plain_sql.proofs.answering.rows_of.Given as goal

abbrev pub invariant-loop-rank : goal.invariant-loop-rank
invariant-loop-rank l = record {
  can : (goal.iterator-loop-rank).can_next l.rank-iterator;
  finite : (goal.iterator-loop-rank).is_finite l.rank-iterator;
  rest : map (λ rank. rank.cells) l.fn.ranks.items ≡ l.rows ++ map (λ rank. rank.cells) l.rank-iterator.rest.items;
}
