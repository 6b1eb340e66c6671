-- Rows that a statement's tests leave out, and the others, which alone are read.
use Rattle.std.specs.Prelude.{◌≡◌, Bool, true, false, List, filter, Ok}
use Rattle.std.specs.List.{AllByRecursion, list_any}
use Rattle.tuple_codec.specs.Rows.{Cells}
use Rattle.schema_model.specs.PlainTables.{is_row}
use Rattle.schema_model.specs.declared.schemas.Schema.{Schema}
use Rattle.plain_sql.specs.Answers.{Meaning, passes}
use Rattle.plain_writes.specs.Writes.{Assign, assigns}

-- the tests leave out each of these rows that isn't kept, with no refusal
abbrev pub ArePassed : List Meaning → (Cells → Bool) → List Cells → Type 0
ArePassed tests keep rows = AllByRecursion (λ row. keep row ≡ false → passes tests row ≡ Ok false) rows

-- some of all rows were read, in their order, and the tests leave out the others
pub record AreRead (tests : List Meaning) (all read : List Cells) : Type 0 where
  pub keep : Cells → Bool
  pub kept : read ≡ filter keep all
  pub passed : ArePassed tests keep all

-- the tests leave out each row of the schema that isn't wanted
abbrev pub LeavesOthers : Schema → List Meaning → (Cells → Bool) → Type 0
LeavesOthers schema tests wanted = (row : Cells) → is_row schema row ≡ true → wanted row ≡ false → passes tests row ≡ Ok false

-- an assignment names a column of the primary key
abbrev pub sets_key : Schema → List Assign → Bool
sets_key schema sets = list_any (assigns sets) schema.key
