use Rattle.std.proofs.Common.{◌≡◌, ◌++◌, map, drop, Ok}
use Rattle.expr_eval.specs.Binding.{and_then}
use Rattle.plain_sql.specs.Answers.{cell_of, cells_shown}
use Rattle.plain_sql.specs.Lists.{each}
use Rattle.plain_sql.specs.Seen.{heading_seen}
use Rattle.plain_sql.proofs.answering.cells_of.Given as goal

abbrev pub invariant-loop-heading : goal.invariant-loop-heading
invariant-loop-heading l =
    cells_shown (map heading_seen l.headings) l.rows
    ≡ and_then (each (λ heading. cell_of l.rows heading.shown) (map heading_seen (drop l.heading-index l.headings))) (λ more. Ok (l.cells ++ more))
