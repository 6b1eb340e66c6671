-- A table's rows before and after a statement that reads only some of them.
use Rattle.std.specs.Prelude.{◌≡◌, List, [], ◌∷◌}
use Rattle.tuple_codec.specs.Rows.{Cells}

-- in the order of the rows: one that isn't read, one that is, and one that comes of those that are
pub data Fate : Type 0 where
  Stays : Cells → Fate
  Leaves : Cells → Fate
  Comes : Cells → Fate

-- all rows, before and after
abbrev pub before : List Fate → List Cells
before [] = []
before (Stays row ∷ fates) = row ∷ before fates
before (Leaves row ∷ fates) = row ∷ before fates
before (Comes row ∷ fates) = before fates

abbrev pub after : List Fate → List Cells
after [] = []
after (Stays row ∷ fates) = row ∷ after fates
after (Leaves row ∷ fates) = after fates
after (Comes row ∷ fates) = row ∷ after fates

-- those that were read, and those that came of them
abbrev pub gone : List Fate → List Cells
gone [] = []
gone (Stays row ∷ fates) = gone fates
gone (Leaves row ∷ fates) = row ∷ gone fates
gone (Comes row ∷ fates) = gone fates

abbrev pub come : List Fate → List Cells
come [] = []
come (Stays row ∷ fates) = come fates
come (Leaves row ∷ fates) = come fates
come (Comes row ∷ fates) = row ∷ come fates

-- the same rows stand among those of both: all rows before with some of them, and all rows after with what came of these
pub record IsWoven (all rows old new : List Cells) : Type 0 where
  pub fates : List Fate
  pub all_are : all ≡ before fates
  pub rows_are : rows ≡ after fates
  pub old_are : old ≡ gone fates
  pub new_are : new ≡ come fates
