-- The rows that are kept, by loops within one another.
use Rattle.std.specs.Prelude.{List, [], ◌∷◌, ◌++◌}
use Rattle.tuple_codec.specs.Rows.{Cells}
use Rattle.expr_eval.specs.Binding.{Outcome}
use Rattle.plain_sql.specs.Lists.{all_of}
use Rattle.plain_sql.specs.Answers.{Meaning, kept_row}

-- those of the combinations that begin with this row
abbrev pub kept_from : List Meaning → List (List Cells) → Cells → Outcome (List Cells)
kept_from tests [] row = kept_row tests row
kept_from tests (rows ∷ sources) row = all_of (λ more. kept_from tests sources (row ++ more)) rows
