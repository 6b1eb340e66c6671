-- The row rule: what becomes of a row that two sides have each taken on from one base.
use Rattle.std.specs.Prelude.{Bool, true, false, if◌then◌else◌, [], ◌∷◌, Option, None, Some}
use Rattle.std.specs.Option.{option_and_then, option_map}
use Rattle.tuple_codec.specs.Rows.{Cells, same_cells, same_value}

-- One thing of base, ours and theirs: what theirs kept is ours, what ours kept is theirs, what both made alike is that. Of
-- anything else this rule says nothing.
abbrev pub three_way : {A : Type 0} → (A → A → Bool) → A → A → A → Option A
three_way same base ours theirs =
    if same theirs base then Some ours else (if same ours base then Some theirs else (if same ours theirs then Some ours else None))

-- things that may be absent, absence being like itself alone
abbrev pub same_option : {A : Type 0} → (A → A → Bool) → Option A → Option A → Bool
same_option same None None = true
same_option same (Some a) (Some b) = same a b
same_option same a b = false

-- cell by cell, each by the rule above; none where some cell meets no case of it
abbrev pub cells3 : Cells → Cells → Cells → Option Cells
cells3 [] [] [] = Some []
cells3 (base ∷ bases) (ours ∷ others) (theirs ∷ rest) =
    option_and_then (λ cell. option_map (λ cells. cell ∷ cells) (cells3 bases others rest)) (three_way same_value base ours theirs)
cells3 bases others rest = None

-- three rows that are present; none is a conflict
abbrev pub by_cells : Option Cells → Option Cells → Option Cells → Option (Option Cells)
by_cells (Some base) (Some ours) (Some theirs) = option_map (λ row. Some row) (cells3 base ours theirs)
by_cells base ours theirs = None

-- a row where the whole rows decide, or else its cells
abbrev pub or_by_cells : Option (Option Cells) → Option Cells → Option Cells → Option Cells → Option (Option Cells)
or_by_cells (Some whole) base ours theirs = Some whole
or_by_cells None base ours theirs = by_cells base ours theirs

-- what stands there in the end, a row or its absence; none is a conflict
unfoldable pub row3 : Option Cells → Option Cells → Option Cells → Option (Option Cells)
row3 base ours theirs = or_by_cells (three_way (same_option same_cells) base ours theirs) base ours theirs
