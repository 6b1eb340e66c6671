-- A table made of a schema and rows.
use Rattle.std.specs.Prelude.{◌≡◌, ◌<◌, ◌^◌, true, List, length}
use Rattle.std.specs.List.{list_all}
use Rattle.tuple_codec.specs.Rows.{Cells}
use Rattle.schema_model.specs.Limits.{is_row_within_limits}
use Rattle.schema_model.specs.PlainTables.{IsTable}
use Rattle.schema_model.specs.declared.schemas.Schema.{Schema}
use Rattle.index_keep.specs.Keeping.{table_of_rows}

-- a table of these rows alone, which keep the limits
pub record CanBuild (schema : Schema) (rows : List Cells) : Type 0 where
  pub is_table : IsTable (table_of_rows schema rows)
  pub limits : list_all (is_row_within_limits schema) rows ≡ true
  pub few : length rows < 2 ^ 63
