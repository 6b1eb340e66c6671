-- The limits on data, each number once, and what keeps them: schemas, rows, tables and databases.
use Rattle.std.specs.Prelude.{ℕ, Bool, true, ◌&&◌, nat_le, List, length, Option, None, Some}
use Rattle.std.specs.List.{list_all}
use Rattle.tuple_codec.specs.Rows.{Cells, key_of}
use Rattle.tuple_codec.specs.KeyBytes.{key_bytes}
use Rattle.schema_model.specs.PlainTables.{Conflict, NamedTable, PlainDatabase, PlainTable, Violation, body_bytes, primary_key}
use Rattle.schema_model.specs.SchemaBytes.{schema_bytes}
use Rattle.schema_model.specs.declared.schemas.ForeignKey.{ForeignKey}
use Rattle.schema_model.specs.declared.schemas.IndexDef.{IndexDef}
use Rattle.schema_model.specs.declared.schemas.Schema.{Schema}

-- ---- the numbers

-- of a table
abbrev pub most_columns : ℕ
most_columns = 64

abbrev pub most_indexes : ℕ
most_indexes = 64

abbrev pub most_checks : ℕ
most_checks = 64

abbrev pub most_foreign_keys : ℕ
most_foreign_keys = 64

-- of a table's, a column's or a constraint's name
abbrev pub most_name_bytes : ℕ
most_name_bytes = 64

abbrev pub most_schema_bytes : ℕ
most_schema_bytes = 32768

-- of a primary key, of an index's own columns, and of a row's cells beside its primary key
abbrev pub most_key_bytes : ℕ
most_key_bytes = 1024

abbrev pub most_index_bytes : ℕ
most_index_bytes = 1024

abbrev pub most_row_bytes : ℕ
most_row_bytes = 8192

-- of a table
abbrev pub most_rows : ℕ
most_rows = 10000000

-- of a database
abbrev pub most_tables : ℕ
most_tables = 256

-- of the state that sessions share
abbrev pub most_branches : ℕ
most_branches = 1024

-- of a commit
abbrev pub most_parents : ℕ
most_parents = 2

abbrev pub most_committer_bytes : ℕ
most_committer_bytes = 32

abbrev pub most_message_bytes : ℕ
most_message_bytes = 8192

-- ---- schemas

abbrev pub is_short_name : List ℕ → Bool
is_short_name name = nat_le 1 (length name) && nat_le (length name) most_name_bytes

abbrev pub has_short_names : ForeignKey → Bool
has_short_names foreign = is_short_name foreign.name && is_short_name foreign.parent && list_all is_short_name foreign.parent_columns

-- a few columns, indexes, checks and foreign keys, short names, and not too many bytes in all
abbrev pub is_within_limits : Schema → Bool
is_within_limits schema =
    nat_le (length schema.columns) most_columns
    && nat_le (length schema.indexes) most_indexes
    && nat_le (length schema.checks) most_checks
    && nat_le (length schema.foreign) most_foreign_keys
    && list_all (λ column. is_short_name column.name) schema.columns
    && list_all (λ index. is_short_name index.name) schema.indexes
    && list_all (λ check. is_short_name check.name) schema.checks
    && list_all has_short_names schema.foreign
    && nat_le (length (schema_bytes schema)) most_schema_bytes

-- ---- rows

abbrev pub is_short_key : Cells → Bool
is_short_key key = nat_le (length (key_bytes key)) most_key_bytes

abbrev pub is_short_in : Cells → IndexDef → Bool
is_short_in row index = nat_le (length (key_bytes (key_of index.columns row))) most_index_bytes

abbrev pub is_short_row : Schema → Cells → Bool
is_short_row schema row = nat_le (length (body_bytes schema row)) most_row_bytes

-- a row of a table: its key, its columns in each index, and its other cells
abbrev pub is_row_within_limits : Schema → Cells → Bool
is_row_within_limits schema row = is_short_key (primary_key schema row) && list_all (is_short_in row) schema.indexes && is_short_row schema row

abbrev pub is_short_side : Schema → Option Cells → Bool
is_short_side schema None = true
is_short_side schema (Some row) = is_short_row schema row

-- the rows of conflicts and violations aren't in any index
abbrev pub is_conflict_within_limits : Schema → Conflict → Bool
is_conflict_within_limits schema conflict =
    is_short_key conflict.key
    && is_short_side schema conflict.base
    && is_short_side schema conflict.ours
    && is_short_side schema conflict.theirs

-- a violation names a constraint or a column
abbrev pub is_violation_within_limits : Schema → Violation → Bool
is_violation_within_limits schema violation =
    is_short_name violation.constraint && is_short_key violation.key && is_short_row schema violation.row

-- ---- tables and databases

-- conflicts and violations aren't counted among a table's rows
abbrev pub is_table_within_limits : PlainTable → Bool
is_table_within_limits table =
    is_within_limits table.schema
    && nat_le (length table.rows) most_rows
    && list_all (is_row_within_limits table.schema) table.rows
    && list_all (is_conflict_within_limits table.schema) table.conflicts
    && list_all (is_violation_within_limits table.schema) table.violations

abbrev pub is_named_within_limits : NamedTable → Bool
is_named_within_limits named = is_short_name named.name && is_table_within_limits named.table

abbrev pub is_database_within_limits : PlainDatabase → Bool
is_database_within_limits database = nat_le (length database) most_tables && list_all is_named_within_limits database
