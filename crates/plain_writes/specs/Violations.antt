-- The violations of a database, and the first of those that a statement brings.
use Rattle.std.specs.Prelude.{ℕ, ◌==◌, Bool, true, false, ◌&&◌, not, if◌then◌else◌, List, [], ◌∷◌, ◌++◌, map, filter, Option, None, Some, Ok, Err, bytes_eq, slice_get}
use Rattle.std.specs.List.{flat_map, list_any, list_all, find, position, enumerate_from}
use Rattle.std.specs.Option.{option_and_then, option_map, option_map_or, option_to_list}
use Rattle.std.specs.Ordering.{is_eq}
use Rattle.tuple_codec.specs.Rows.{Cells, cell_at, key_of, same_cells}
use Rattle.tuple_codec.specs.declared.values.SqlType.{SqlType}
use Rattle.tuple_codec.specs.declared.values.SqlType.TheVariants as type
use Rattle.tuple_codec.specs.declared.values.Value.{Value}
use Rattle.tuple_codec.specs.declared.values.Value.TheVariants as cell
use Rattle.schema_model.specs.declared.schemas.Column.{Column}
use Rattle.schema_model.specs.declared.schemas.IndexDef.{IndexDef}
use Rattle.schema_model.specs.declared.schemas.CheckDef.{CheckDef}
use Rattle.schema_model.specs.declared.schemas.ForeignKey.{ForeignKey}
use Rattle.schema_model.specs.declared.schemas.Schema.{Schema}
use Rattle.schema_model.specs.PlainTables.{PlainTable, NamedTable, PlainDatabase, Violation, violation_cmp, primary_key}
use Rattle.expr_eval.specs.Binding.{Outcome}
use Rattle.expr_eval.specs.declared.scopes.ScopeColumn.{ScopeColumn}
use Rattle.sql_ast.specs.declared.expressions.Expr.{Expr}
use Rattle.plain_sql.specs.Lists.{in_order}
use Rattle.plain_sql.specs.Answers.{Meaning, given, is_null}
use Rattle.plain_sql.specs.Plans.{condition}

-- ---- names

abbrev pub is_called : List ℕ → NamedTable → Bool
is_called name named = bytes_eq named.name name

abbrev pub table_in : PlainDatabase → List ℕ → Option PlainTable
table_in database name = option_map (λ named. named.table) (find (is_called name) database)

-- a table's columns as a CHECK, an UPDATE or a DELETE names them
abbrev pub own_scope : List ℕ → Schema → List ScopeColumn
own_scope name schema = map (λ column. record { source = name; name = column.name; kind = column.kind }) schema.columns

abbrev pub column_place : Schema → List ℕ → Option ℕ
column_place schema name = position (λ column. bytes_eq column.name name) schema.columns

-- ---- what a row breaks

-- a key that takes part: none of its cells is NULL
abbrev pub is_whole : Cells → Bool
is_whole key = list_all (λ value. not (is_null value)) key

-- how each CHECK's text is judged on a row
abbrev pub Checks : Type 0
Checks = List ℕ → Schema → List ℕ → Option Meaning

-- out of range isn't false
abbrev pub is_false : Outcome Value → Bool
is_false (Ok (cell.Bool b)) = not b
is_false outcome = false

abbrev pub breaks_check : Option Meaning → Cells → Bool
breaks_check (Some meaning) row = is_false (given meaning row)
breaks_check None row = false

abbrev pub breaks_not_null : ℕ → Cells → Bool
breaks_not_null place row = is_null (cell_at row place)

-- another row, by its primary key, has the same cells there
abbrev pub is_twin : Schema → List ℕ → Cells → Cells → Bool
is_twin schema places row other =
    not (same_cells (primary_key schema row) (primary_key schema other)) && same_cells (key_of places row) (key_of places other)

abbrev pub breaks_unique : Schema → List Cells → List ℕ → Cells → Bool
breaks_unique schema rows places row = is_whole (key_of places row) && list_any (is_twin schema places row) rows

-- ---- foreign keys

abbrev pub types_at : Schema → List ℕ → List SqlType
types_at schema places = flat_map (λ place. map (λ column. column.kind) (option_to_list (slice_get schema.columns place))) places

-- BIGINT and so on, with the same numbers
abbrev pub same_type : SqlType → SqlType → Bool
same_type type.BigInt type.BigInt = true
same_type type.Int type.Int = true
same_type type.Bool type.Bool = true
same_type (type.Varchar m) (type.Varchar n) = m == n
same_type (type.Varbinary m) (type.Varbinary n) = m == n
same_type (type.Decimal m s) (type.Decimal n t) = m == n && s == t
same_type a b = false

abbrev pub same_types : List SqlType → List SqlType → Bool
same_types [] [] = true
same_types (a ∷ as_) (b ∷ bs) = same_type a b && same_types as_ bs
same_types as_ bs = false

-- where these columns stand, if all of them are there
abbrev pub places_of : Schema → List (List ℕ) → Option (List ℕ)
places_of schema [] = Some []
places_of schema (name ∷ names) = option_and_then (λ place. option_map (λ places. place ∷ places) (places_of schema names)) (column_place schema name)

abbrev pub keys_at : Schema → ForeignKey → PlainTable → List ℕ → List Cells
keys_at schema foreign parent places =
    if same_types (types_at parent.schema places) (types_at schema foreign.columns) then map (key_of places) parent.rows else []

abbrev pub keys_of_parent : Schema → ForeignKey → PlainTable → List Cells
keys_of_parent schema foreign parent = option_map_or (keys_at schema foreign parent) (places_of parent.schema foreign.parent_columns) []

-- what the parent's rows have in the columns that a foreign key names; none where the table, a column or a type is another
abbrev pub parent_keys : PlainDatabase → Schema → ForeignKey → List Cells
parent_keys database schema foreign = option_map_or (keys_of_parent schema foreign) (table_in database foreign.parent) []

abbrev pub breaks_foreign : List Cells → List ℕ → Cells → Bool
breaks_foreign keys places row = is_whole (key_of places row) && not (list_any (same_cells (key_of places row)) keys)

-- ---- the violations

abbrev pub violation : Schema → ℕ → List ℕ → Cells → Violation
violation schema kind constraint row = record { kind = kind; constraint = constraint; key = primary_key schema row; row = row }

abbrev pub broken : Schema → List Cells → ℕ → List ℕ → (Cells → Bool) → List Violation
broken schema rows kind constraint breaks = map (violation schema kind constraint) (filter breaks rows)

abbrev pub of_foreign : PlainDatabase → Schema → List Cells → ForeignKey → List Violation
of_foreign database schema rows foreign = broken schema rows 1 foreign.name (breaks_foreign (parent_keys database schema foreign) foreign.columns)

abbrev pub of_index : Schema → List Cells → IndexDef → List Violation
of_index schema rows index = if index.unique then broken schema rows 2 index.name (breaks_unique schema rows index.columns) else []

abbrev pub of_check : Checks → List ℕ → Schema → List Cells → CheckDef → List Violation
of_check checks name schema rows check = broken schema rows 3 check.name (breaks_check (checks name schema check.text))

abbrev pub of_column : Schema → List Cells → ℕ × Column → List Violation
of_column schema rows x = if x.1.not_null then broken schema rows 4 x.1.name (breaks_not_null x.0) else []

-- by kind, constraint and key
abbrev pub violations_in : Checks → PlainDatabase → List ℕ → Schema → List Cells → List Violation
violations_in checks database name schema rows =
    in_order violation_cmp (
    flat_map (of_foreign database schema rows) schema.foreign
    ++ flat_map (of_index schema rows) schema.indexes
    ++ flat_map (of_check checks name schema rows) schema.checks
    ++ flat_map (of_column schema rows) (enumerate_from 0 schema.columns))

pub record Found : Type 0 where
  pub table : List ℕ
  pub violation : Violation

abbrev pub found_in : Checks → PlainDatabase → NamedTable → List Found
found_in checks database named = map (λ violation. record { table = named.name; violation = violation }) (violations_in checks database named.name named.table.schema named.table.rows)

abbrev pub violations : Checks → PlainDatabase → List Found
violations checks database = flat_map (found_in checks database) database

-- ---- the new ones

abbrev pub same_violation : Found → Found → Bool
same_violation a b =
    bytes_eq a.table b.table && is_eq (violation_cmp a.violation b.violation) && same_cells a.violation.row b.violation.row

-- the old database had this row under this key, cell by cell
abbrev pub had : Violation → Schema → Cells → Bool
had found schema row = same_cells found.key (primary_key schema row) && same_cells found.row row

abbrev pub had_in : Violation → PlainTable → Bool
had_in found table = list_any (had found table.schema) table.rows

abbrev pub had_row : PlainDatabase → Found → Bool
had_row old found = option_map_or (had_in found.violation) (table_in old found.table) false

-- the number that each is refused with; NULL in a NOT NULL column is refused where a row takes it
abbrev pub number_of : PlainDatabase → Found → ℕ
number_of old found =
    if found.violation.kind == 2 then 1062
    else (if found.violation.kind == 3 then 3819
    else (if found.violation.kind == 4 then 1048
    else (if had_row old found then 1451 else 1452)))

-- the numbers of those that weren't there before
abbrev pub numbers_of : PlainDatabase → List Found → List Found → List ℕ
numbers_of old before found = map (number_of old) (filter (λ one. not (list_any (same_violation one) before)) found)

abbrev pub first_of : List ℕ → Option ℕ
first_of numbers = find (λ number. list_any (λ other. other == number) numbers) (1062 ∷ 3819 ∷ 1452 ∷ 1451 ∷ [])

-- the first refusal among the new violations
abbrev pub first_violation : Checks → PlainDatabase → PlainDatabase → Option ℕ
first_violation checks old new = first_of (numbers_of old (violations checks old) (violations checks new))

-- ---- how a CHECK's text is judged, by what reads it

abbrev pub meaning_if : Outcome Meaning → Option Meaning
meaning_if (Ok meaning) = Some meaning
meaning_if (Err number) = None

abbrev pub said_of : (List ℕ → Option Expr) → List ScopeColumn → List ℕ → Option Meaning
said_of reading scope text = option_and_then (λ expr. meaning_if (condition scope expr)) (reading text)

abbrev pub checks_by : (List ℕ → Option Expr) → Checks
checks_by reading name schema text = said_of reading (own_scope name schema) text
