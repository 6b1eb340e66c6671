use Rattle.std.proofs.Common.{map, Ok}
use Rattle.plain_sql.specs.Levels.{rows_of}
use Rattle.plain_sql.specs.Lists.{behind}
use Rattle.plain_sql.specs.Nesting.{kept_from}
use Rattle.plain_sql.specs.Plans.{meaning}
use Rattle.plain_sql.proofs.LevelLemmas.{Goes, work}
use Rattle.plain_sql.proofs.combining.kept_from.Given as goal

abbrev pub invariant-levels : goal.invariant-levels
invariant-levels l = Goes (map meaning l.tests) (behind (Ok l.fn.kept) (kept_from (map meaning l.tests) (rows_of l.sources) l.fn.row)) l.kept l.levels.items

abbrev pub decreases-levels : goal.decreases-levels
decreases-levels l = work l.levels.items
