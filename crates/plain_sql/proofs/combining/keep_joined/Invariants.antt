use Rattle.std.proofs.Common.{◌≡◌, ◌++◌, map, drop, Ok}
use Rattle.plain_sql.specs.Answers.{kept_row}
use Rattle.plain_sql.specs.Lists.{all_of, behind}
use Rattle.plain_sql.specs.Plans.{meaning}
use Rattle.plain_sql.proofs.combining.keep_joined.Given as goal

abbrev pub invariant-loop-more : goal.invariant-loop-more
invariant-loop-more l =
    behind (Ok l.fn.kept) (all_of (λ more. kept_row (map meaning l.tests) (l.row ++ more)) l.rows)
    ≡ behind (Ok l.kept) (all_of (λ more. kept_row (map meaning l.tests) (l.row ++ more)) (drop l.more-index l.rows))
