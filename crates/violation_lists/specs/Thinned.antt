-- A database with those rows alone that may break a constraint, or that a foreign key looks for.
use Rattle.std.specs.Prelude.{ℕ, ◌==◌, Bool, false, ◌&&◌, ◌||◌, not, if◌then◌else◌, List, [], ◌∷◌, map, filter, bytes_eq}
use Rattle.std.specs.List.{enumerate_from, list_all, list_any}
use Rattle.tuple_codec.specs.Rows.{Cells, same_cells}
use Rattle.tuple_codec.specs.declared.values.Value.TheVariants as cell
use Rattle.schema_model.specs.PlainTables as plain
use Rattle.schema_model.specs.PlainTables.{PlainDatabase, PlainTable, primary_key}
use Rattle.schema_model.specs.declared.schemas.Column.{Column}
use Rattle.schema_model.specs.declared.schemas.Schema.{Schema}
use Rattle.violation_lists.specs.Scanning.{is_constrained}

-- a column is the whole primary key
abbrev pub is_sole : List ℕ → ℕ → Bool
is_sole [] place = false
is_sole (only ∷ []) place = only == place
is_sole (first ∷ second ∷ key) place = false

-- NOT NULL in a column that isn't the whole primary key; where one is, NULL stands in the row of that key alone
abbrev pub is_guarded : List ℕ → ℕ × Column → Bool
is_guarded key x = x.1.not_null && not (is_sole key x.0)

-- a row may break a constraint whose primary key isn't NULL
abbrev pub is_judged : Schema → Bool
is_judged schema = is_constrained schema || list_any (is_guarded schema.key) (enumerate_from 0 schema.columns)

-- a foreign key of the schema looks for rows of the table of this name
abbrev pub looks_for : List ℕ → Schema → Bool
looks_for name schema = list_any (λ foreign. bytes_eq foreign.parent name) schema.foreign

-- some table's does
abbrev pub is_parent : PlainDatabase → List ℕ → Bool
is_parent database name = list_any (λ named. looks_for name named.table.schema) database

-- the row's primary key is one cell, which is NULL
abbrev pub has_null_key : Schema → Cells → Bool
has_null_key schema row = same_cells (cell.Null ∷ []) (primary_key schema row)

-- a table with all of its rows, or with that of key NULL alone
abbrev pub thin_rows : PlainDatabase → plain.NamedTable → List Cells
thin_rows database named = if is_judged named.table.schema || is_parent database named.name then named.table.rows else filter (has_null_key named.table.schema) named.table.rows

abbrev pub thin_named : PlainDatabase → plain.NamedTable → plain.NamedTable
thin_named database named = record { name = named.name; table = record { schema = named.table.schema; rows = thin_rows database named; conflicts = []; violations = [] } }

abbrev pub thinned : PlainDatabase → PlainDatabase
thinned database = map (thin_named database) database

-- no row of the table breaks a constraint, as its schema and its keys tell
abbrev pub is_quiet : PlainTable → Bool
is_quiet table = not (is_judged table.schema) && not (list_any (has_null_key table.schema) table.rows)

abbrev pub are_quiet : PlainDatabase → Bool
are_quiet database = list_all (λ named. is_quiet named.table) database
