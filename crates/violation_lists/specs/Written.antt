-- Violations as the lists of tables keep them.
use Rattle.std.specs.Prelude.{Bool, true, ◌&&◌, List, [], ◌∷◌}
use Rattle.std.specs.Option.{option_map_or}
use Rattle.tuple_codec.specs.KeyBytes.{key_bytes}
use Rattle.tuple_codec.specs.Rows.{same_cells}
use Rattle.schema_model.specs.declared.schemas.Schema.{Schema}
use Rattle.schema_model.specs.PlainTables as plain
use Rattle.schema_model.specs.PlainTables.{PlainDatabase, body_bytes, is_row, primary_key}
use Rattle.schema_model.specs.Schemas.{is_schema}
use Rattle.plain_writes.specs.Violations.{Found, table_in}
use Rattle.violation_lists.specs.declared.listing.ListedViolation.{ListedViolation}

-- a violation with the bytes of its key and its row
abbrev pub written : Schema → Found → ListedViolation
written schema found =
    record { table = found.table; kind = found.violation.kind; constraint = found.violation.constraint; key = key_bytes found.violation.key; row = body_bytes schema found.violation.row }

-- the same by the schema of the table of its name
abbrev pub written_in : PlainDatabase → Found → List ListedViolation
written_in database found = option_map_or (λ table. written table.schema found ∷ []) (table_in database found.table) []

-- the row is one of the schema's, under its key
abbrev pub fits : Schema → plain.Violation → Bool
fits schema violation = is_schema schema && (is_row schema violation.row && same_cells violation.key (primary_key schema violation.row))

abbrev pub fits_in : PlainDatabase → Found → Bool
fits_in database found = option_map_or (λ table. fits table.schema found.violation) (table_in database found.table) true
