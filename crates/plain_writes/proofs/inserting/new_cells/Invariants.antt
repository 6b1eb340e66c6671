use Rattle.std.proofs.Common.{◌≡◌, ◌++◌, map, drop, Ok, true}
use Rattle.std.specs.List.{enumerate_from, list_all}
use Rattle.tuple_codec.specs.Limits.{is_type}
use Rattle.expr_eval.specs.Binding.{and_then}
use Rattle.plain_sql.specs.Lists.{each}
use Rattle.plain_writes.specs.Seen.{given_seen}
use Rattle.plain_writes.specs.Writes.{new_cell}
use Rattle.plain_writes.proofs.inserting.new_cells.Given as goal

abbrev pub invariant-loop-place : goal.invariant-loop-place
invariant-loop-place l = record {
  types : list_all (λ column. is_type column.kind) (drop l.place l.columns) ≡ true;
  rest : each (new_cell l.places (map given_seen l.said)) (enumerate_from 0 l.columns)
      ≡ and_then (each (new_cell l.places (map given_seen l.said)) (enumerate_from l.place (drop l.place l.columns))) (λ more. Ok (l.cells ++ more));
}
