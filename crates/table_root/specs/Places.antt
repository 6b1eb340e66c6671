-- How a row is taken apart into its key and its other cells, and put together again.
use Rattle.std.specs.Prelude.{ℕ, zero, suc, ◌==◌, List, [], ◌∷◌, drop, Option, None, Some, position, slice_get}
use Rattle.std.specs.Option.{option_and_then}
use Rattle.tuple_codec.specs.Rows.{Cells}
use Rattle.tuple_codec.specs.declared.values.Value.{Value}
use Rattle.tuple_codec.specs.declared.values.Value.TheVariants as cell

-- the cell of a position, where it is one of the key's; cells are those of the key
abbrev pub keyed_cell : List ℕ → Cells → ℕ → Option Value
keyed_cell key cells place = option_and_then (λ at. slice_get cells at) (position (λ other. other == place) key)

-- a cell of the key, or else the first of the others
abbrev pub cell_or_first : Option Value → Cells → Value
cell_or_first (Some value) others = value
cell_or_first None [] = cell.Null
cell_or_first None (other ∷ others) = other

-- the others that are left behind it
abbrev pub others_after : Option Value → Cells → Cells
others_after (Some value) others = others
others_after None others = drop 1 others

-- so many cells of a row, the first of these standing at a position: those of the key in their places, the others in order
abbrev pub joined_from : List ℕ → Cells → ℕ → ℕ → Cells → Cells
joined_from key cells place zero others = []
joined_from key cells place (suc count) others =
    cell_or_first (keyed_cell key cells place) others
    ∷ joined_from key cells (suc place) count (others_after (keyed_cell key cells place) others)
