-- A row of one schema as a row of another.
use Rattle.std.specs.Prelude.{ℕ, map, Option, None, Some}
use Rattle.tuple_codec.specs.Rows.{Cells, cell_at}
use Rattle.tuple_codec.specs.declared.values.Value.{Value}
use Rattle.tuple_codec.specs.declared.values.Value.TheVariants as cell
use Rattle.schema_model.specs.declared.schemas.Column.{Column}
use Rattle.schema_model.specs.declared.schemas.Schema.{Schema}
use Rattle.schema_merge.specs.Parts.{place_of}

-- what a row gets that has no such column
abbrev pub default_cell : Option Value → Value
default_cell None = cell.Null
default_cell (Some value) = value

abbrev pub cell_or_default : Cells → Option Value → Option ℕ → Value
cell_or_default row default None = default_cell default
cell_or_default row default (Some place) = cell_at row place

-- the cell of the column of that name, or else the column's default, or NULL
abbrev pub projected_cell : Schema → Cells → Column → Value
projected_cell from_schema row column = cell_or_default row column.default (place_of from_schema.columns column.name)

abbrev pub projected : Schema → Schema → Cells → Cells
projected from_schema to_schema row = map (projected_cell from_schema row) to_schema.columns
