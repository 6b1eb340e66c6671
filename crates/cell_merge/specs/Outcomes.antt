-- What a merged row is.
use Rattle.std.specs.Prelude.{◌≡◌, Bool, true, false, ◌++◌, Option, None, Some}
use Rattle.tuple_codec.specs.Rows.{Cells}
use Rattle.cell_merge.specs.declared.outcomes.RowOutcome.{RowOutcome}
use Rattle.cell_merge.specs.declared.outcomes.RowOutcome.TheVariants as outcome

-- an outcome as the row rule tells it: a row or its absence, or none for a conflict
abbrev pub row_in : RowOutcome → Option (Option Cells)
row_in outcome.Absent = Some None
row_in (outcome.Row row) = Some (Some row)
row_in outcome.Conflict = None

-- the merged cells stand behind what a row had, or there are none
abbrev pub HasPushed : Bool → Cells → Cells → Option Cells → Type 0
HasPushed true old new (Some cells) = new ≡ old ++ cells
HasPushed false old new None = Unit {0}
HasPushed all old new cells = ⊥
