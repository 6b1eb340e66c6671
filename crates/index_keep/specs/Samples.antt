-- A schema with indexes, and rows for tests.
use Rattle.std.specs.Prelude.{ℕ, ℤ, pos, true, false, List, [], ◌∷◌, None, Some, codes}
use Rattle.tuple_codec.specs.Rows.{Cells}
use Rattle.tuple_codec.specs.declared.edits.Edit.{Edit}
use Rattle.tuple_codec.specs.declared.values.SqlType.TheVariants as kind
use Rattle.tuple_codec.specs.declared.values.Value.TheVariants as cell
use Rattle.schema_model.specs.PlainTables.{body_bytes}
use Rattle.schema_model.specs.declared.schemas.Column.{Column}
use Rattle.schema_model.specs.declared.schemas.Schema.{Schema}
use Rattle.index_keep.specs.Entries.{row_key}

abbrev pub number : List ℕ → Column
number name = record { name = name; kind = kind.BigInt; not_null = true; default = None }

-- columns id, a and b, of which the first is the primary key, with an index of a and one of b
abbrev pub indexed : Schema
indexed = record {
  columns = number (codes "id") ∷ number (codes "a") ∷ number (codes "b") ∷ [];
  key = 0 ∷ [];
  indexes = record { name = codes "once"; unique = true; columns = 1 ∷ [] } ∷ record { name = codes "often"; unique = false; columns = 2 ∷ [] } ∷ [];
  checks = [];
  foreign = [];
}

-- the row of one id
abbrev pub sample_row : ℤ → ℤ → Cells
sample_row a b = cell.Int (pos 1) ∷ cell.Int a ∷ cell.Int b ∷ []

abbrev pub put_row : ℤ → ℤ → Edit
put_row a b = record { key = row_key indexed (sample_row a b); value = Some (body_bytes indexed (sample_row a b)) }

abbrev pub remove_row : Edit
remove_row = record { key = row_key indexed (sample_row (pos 0) (pos 0)); value = None }
