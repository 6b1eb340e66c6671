-- Which rows a test seeks, so that it passes over the others.
use Rattle.std.specs.Prelude.{◌≡◌, Bool, true, false, List, length, take, Option}
use Rattle.std.specs.List.{find}
use Rattle.tuple_codec.specs.Rows.{Cells, fits_all, same_cells}
use Rattle.schema_model.specs.PlainTables.{is_row, key_types, primary_key}
use Rattle.schema_model.specs.declared.schemas.Schema.{Schema}
use Rattle.expr_eval.specs.declared.bound.BoundExpr.{BoundExpr}
use Rattle.plain_sql.specs.Passing.{IsPassedOver}
use Rattle.sql_select.specs.Spans.{is_in, start_of}
use Rattle.sql_select.specs.declared.spans.KeySpan.{KeySpan}

-- the row's primary key lies in the span
abbrev pub is_sought : Schema → KeySpan → Cells → Bool
is_sought schema span row = is_in span (primary_key schema row)

-- each row of the schema that isn't wanted is passed over, without a refusal
abbrev pub Seeks : Schema → BoundExpr → (Cells → Bool) → Type 0
Seeks schema test wanted = (row : Cells) → is_row schema row ≡ true → wanted row ≡ false → IsPassedOver test row

-- the cells that it begins with fit the first columns of the key
abbrev pub IsSpanOf : Schema → KeySpan → Type 0
IsSpanOf schema span = fits_all (take (length (start_of span)) (key_types schema)) (start_of span) ≡ true

-- the row of this primary key, if there is one
abbrev pub row_with : Schema → Cells → List Cells → Option Cells
row_with schema key rows = find (λ row. same_cells (primary_key schema row) key) rows
