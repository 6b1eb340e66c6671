-- Keys that rise.
use Rattle.std.specs.Prelude.{◌≡◌, Bool, true, List, [], ◌∷◌, Option, None, Some}
use Rattle.std.specs.Ordering.{is_lt}
use Rattle.tuple_codec.specs.Rows.{Cells, key_cmp}
use Rattle.schema_model.specs.PlainTables.{is_row, primary_key}
use Rattle.schema_model.specs.declared.schemas.Schema.{Schema}

-- strictly, also from the one before them
abbrev pub is_above : Option Cells → Cells → Bool
is_above None key = true
is_above (Some low) key = is_lt (key_cmp low key)

abbrev pub RiseFrom : Option Cells → List Cells → Type 0
RiseFrom low [] = Unit {0}
RiseFrom low (key ∷ keys) = (is_above low key ≡ true) × RiseFrom (Some key) keys

-- a row of the schema with this key, if there is one
abbrev pub IsAt : Schema → Cells → Option Cells → Type 0
IsAt schema key None = Unit {0}
IsAt schema key (Some row) = (is_row schema row ≡ true) × (primary_key schema row ≡ key)
