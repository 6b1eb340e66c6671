-- Which case of the row rule decides.
use Rattle.std.specs.Prelude.{◌≡◌, true, if◌then◌else◌, is_some, Option, None, Some}
use Rattle.tuple_codec.specs.Rows.{Cells, same_cells}
use Rattle.tuple_codec.specs.RowRule.{by_cells, row3, same_option}
use Rattle.cell_merge.specs.declared.decisions.Decision.{Decision}
use Rattle.cell_merge.specs.declared.decisions.Decision.TheVariants as decision

-- where whole rows don't decide
abbrev pub of_cells : Option Cells → Option Cells → Option Cells → Decision
of_cells base ours theirs = if is_some (by_cells base ours theirs) then decision.Cells else decision.Conflict

-- whole rows first
abbrev pub by_rows : Option Cells → Option Cells → Option Cells → Decision
by_rows base ours theirs =
    if same_option same_cells theirs base then decision.Ours else (
    if same_option same_cells ours base then decision.Theirs else (
    if same_option same_cells ours theirs then decision.Ours else of_cells base ours theirs))

-- what a decision says of the row rule's answer
abbrev pub KeepsRule : Decision → Option Cells → Option Cells → Option Cells → Type 0
KeepsRule decision.Ours base ours theirs = row3 base ours theirs ≡ Some ours
KeepsRule decision.Theirs base ours theirs = row3 base ours theirs ≡ Some theirs
KeepsRule decision.Cells base ours theirs = (row3 base ours theirs ≡ by_cells base ours theirs) × (is_some (by_cells base ours theirs) ≡ true)
KeepsRule decision.Conflict base ours theirs = row3 base ours theirs ≡ None
