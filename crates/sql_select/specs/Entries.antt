-- Rows that have some cells in the columns of an index.
use Rattle.std.specs.Prelude.{◌≡◌, ℕ, Bool, true, if◌then◌else◌, List, length, drop, Option, None, Some, slice_get}
use Rattle.tuple_codec.specs.KeyBytes.{key_bytes}
use Rattle.tuple_codec.specs.Rows.{Cells, fits_all, key_of, same_cells}
use Rattle.schema_model.specs.PlainTables.{is_row, primary_key}
use Rattle.schema_model.specs.declared.schemas.IndexDef.{IndexDef}
use Rattle.schema_model.specs.declared.schemas.Schema.{Schema}
use Rattle.plain_writes.specs.Violations.{types_at}
use Rattle.violation_lists.specs.Seeking.{begins}
use Rattle.sql_select.specs.Seeking.{row_with}
use Rattle.sql_select.specs.declared.entries.Entries.{Entries}

-- the row has these cells there
abbrev pub has_cells : List ℕ → Cells → Cells → Bool
has_cells columns cells row = same_cells cells (key_of columns row)

abbrev pub has_cells_in : Option IndexDef → Cells → Cells → Bool
has_cells_in None cells row = true
has_cells_in (Some index) cells row = has_cells index.columns cells row

-- it has them in the columns of the schema's index at the place; every row does where there is no such index
abbrev pub is_entered : Schema → Entries → Cells → Bool
is_entered schema entries row = has_cells_in (slice_get schema.indexes entries.place) entries.cells row

-- the index is there, and the cells fit its columns
abbrev pub AreEntriesOf : Schema → Entries → Type 0
AreEntriesOf schema entries = (index : IndexDef) × (slice_get schema.indexes entries.place ≡ Some index) × (fits_all (types_at schema index.columns) entries.cells ≡ true)

-- what stands behind these bytes in a key that begins with them
abbrev pub behind : List ℕ → List ℕ → Option (List ℕ)
behind prefix key = if begins prefix key then Some (drop (length prefix) key) else None

-- the row that has these bytes of its primary key
pub record IsUnder (schema : Schema) (rows : List Cells) (bytes : List ℕ) (row : Cells) : Type 0 where
  pub fits : is_row schema row ≡ true
  pub key : key_bytes (primary_key schema row) ≡ bytes
  pub found : row_with schema (primary_key schema row) rows ≡ Some row
