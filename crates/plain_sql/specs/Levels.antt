-- What is left of loops within one another: rows of a source to be tried behind a row, and the sources behind it.
use Rattle.std.specs.Prelude.{◌≡◌, ◌*◌, ℕ, suc, List, [], ◌∷◌, ◌++◌, length, map}
use Rattle.tuple_codec.specs.Rows.{Cells}
use Rattle.expr_eval.specs.Binding.{Outcome}
use Rattle.plain_sql.specs.Lists.{all_of, behind}
use Rattle.plain_sql.specs.Answers.{Meaning}
use Rattle.plain_sql.specs.Links.{AreServed}
use Rattle.plain_sql.specs.Nesting.{kept_from}
use Rattle.plain_sql.specs.declared.levels.Level.{Level}
use Rattle.plain_sql.specs.declared.sources.Read.{Read}

abbrev pub rows_of : List Read → List (List Cells)
rows_of sources = map (λ (source : Read). source.rows) sources

-- what is kept of the combinations that a level has left
abbrev pub left_of : List Meaning → Level → Outcome (List Cells)
left_of tests level = all_of (λ more. kept_from tests (rows_of level.sources.now) (level.row ++ more)) level.rows.now

abbrev pub IsServed : List Meaning → Level → Type 0
IsServed tests level = AreServed tests level.sources.now level.lookups.now

-- at most so many steps are left of a level with these sources behind it, for each row
abbrev pub weight : List (List Cells) → ℕ
weight [] = 0
weight (rows ∷ sources) = suc (suc (length rows * weight sources))

abbrev pub work_of : Level → ℕ
work_of level = suc (length level.rows.now * weight (rows_of level.sources.now))

-- a level's first row begins another level, and the rest of its rows comes behind that
pub record Opens (tests : List Meaning) (whole next rest : Level) : Type 0 where
  pub left : left_of tests whole ≡ behind (left_of tests next) (left_of tests rest)
  pub served_next : IsServed tests next
  pub served_rest : IsServed tests rest
