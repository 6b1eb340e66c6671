-- A schema and rows for the vectors.
use Rattle.std.specs.Prelude.{ℤ, true, false, [], ◌∷◌, None, codes}
use Rattle.tuple_codec.specs.Rows.{Cells}
use Rattle.tuple_codec.specs.declared.values.SqlType.TheVariants as kind
use Rattle.tuple_codec.specs.declared.values.Value.{Value}
use Rattle.tuple_codec.specs.declared.values.Value.TheVariants as cell
use Rattle.schema_model.specs.declared.schemas.Schema.{Schema}

-- columns word, id and amount, of which the second is the primary key
abbrev pub id_in_the_middle : Schema
id_in_the_middle = record {
  columns = record { name = codes "word"; kind = kind.Varchar 5; not_null = false; default = None }
      ∷ record { name = codes "id"; kind = kind.BigInt; not_null = true; default = None }
      ∷ record { name = codes "amount"; kind = kind.BigInt; not_null = false; default = None } ∷ [];
  key = 1 ∷ [];
  indexes = [];
  checks = [];
  foreign = [];
}

-- a word, an id, and no amount
abbrev pub sample_row : Value → ℤ → Cells
sample_row word id = word ∷ cell.Int id ∷ cell.Null ∷ []
