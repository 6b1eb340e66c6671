-- What ALTER TABLE makes of a database, or its first refusal.
use Rattle.std.specs.Prelude.{ℕ, ◌-◌, Bool, true, ◌&&◌, ◌||◌, not, nat_lt, if◌then◌else◌, List, [], ◌∷◌, ◌++◌, map, set, Option, Ok, bytes_eq, is_some, slice_get}
use Rattle.std.specs.List.{list_any, remove}
use Rattle.std.specs.Option.{option_and_then}
use Rattle.tuple_codec.specs.Limits.{is_type}
use Rattle.tuple_codec.specs.Rows.{Cells, cell_at}
use Rattle.schema_model.specs.declared.schemas.Column.{Column}
use Rattle.schema_model.specs.declared.schemas.IndexDef.{IndexDef}
use Rattle.schema_model.specs.declared.schemas.CheckDef.{CheckDef}
use Rattle.schema_model.specs.declared.schemas.ForeignKey.{ForeignKey}
use Rattle.schema_model.specs.declared.schemas.Schema.{Schema}
use Rattle.schema_model.specs.Limits.{is_within_limits}
use Rattle.schema_model.specs.PlainTables.{PlainTable, NamedTable, PlainDatabase, is_keyed}
use Rattle.schema_model.specs.Schemas.{is_empty}
use Rattle.sql_values.specs.Kinds.{kind_of, may_assign}
use Rattle.sql_values.specs.declared.kinds.Kind.{Kind}
use Rattle.sql_ast.specs.declared.tables.ColumnElement.{ColumnElement}
use Rattle.sql_ast.specs.declared.statements.Alter.{Alter}
use Rattle.sql_ast.specs.declared.statements.AlterAction.{AlterAction}
use Rattle.sql_ast.specs.declared.statements.AlterAction.TheVariants as action
use Rattle.sql_rules.specs.Names.{contains}
use Rattle.sql_rules.specs.Defaults.{altered_column}
use Rattle.expr_eval.specs.Binding.{Outcome, and_then, mismatch}
use Rattle.plain_sql.specs.Lists.{or_refuse, unless, each}
use Rattle.plain_writes.specs.Violations.{Checks, column_place}
use Rattle.plain_writes.specs.Writes.{Effect, assigned, if_small, replaced, on_table, standard}
use Rattle.plain_schemas.specs.Made.{defined}
use Rattle.plain_schemas.specs.Effects.{changed_to}
use Rattle.plain_schemas.specs.declared.changing.ColumnChange.{ColumnChange}
use Rattle.plain_schemas.specs.declared.changing.ColumnChange.TheVariants as change

-- ---- what a change makes of a schema and of a row

abbrev pub with_columns : Schema → List Column → Schema
with_columns schema columns =
    record { columns = columns; key = schema.key; indexes = schema.indexes; checks = schema.checks; foreign = schema.foreign }

-- where a column stands once another is gone
abbrev pub moved_up : ℕ → ℕ → ℕ
moved_up gone place = if nat_lt gone place then place - 1 else place

abbrev pub index_without : ℕ → IndexDef → IndexDef
index_without gone index = record { name = index.name; unique = index.unique; columns = map (moved_up gone) index.columns }

abbrev pub foreign_without : ℕ → ForeignKey → ForeignKey
foreign_without gone foreign =
    record { name = foreign.name; columns = map (moved_up gone) foreign.columns; parent = foreign.parent; parent_columns = foreign.parent_columns }

abbrev pub without_column : Schema → ℕ → Schema
without_column schema gone =
    record {
      columns = remove schema.columns gone;
      key = map (moved_up gone) schema.key;
      indexes = map (index_without gone) schema.indexes;
      checks = schema.checks;
      foreign = map (foreign_without gone) schema.foreign;
    }

abbrev pub schema_after : ColumnChange → Schema → Schema
schema_after (change.Add column) schema = with_columns schema (schema.columns ++ column ∷ [])
schema_after (change.Remove place) schema = without_column schema place
schema_after (change.Redefine place kind column) schema = with_columns schema (set schema.columns place column)

-- an added column has its default, else NULL; the cells of a column that is defined anew are assigned to it
abbrev pub row_after : ColumnChange → Cells → Outcome Cells
row_after (change.Add column) row = and_then (standard column) (λ value. Ok (row ++ value ∷ []))
row_after (change.Remove place) row = Ok (remove row place)
row_after (change.Redefine place kind column) row = and_then (assigned kind column (cell_at row place)) (λ value. Ok (set row place value))

abbrev pub small_row_after : Schema → ColumnChange → Cells → Outcome Cells
small_row_after schema change row = and_then (row_after change row) (if_small schema)

-- a column that is added or defined anew has a type
abbrev pub has_type : ColumnChange → Bool
has_type (change.Add column) = is_type column.kind
has_type (change.Remove place) = true
has_type (change.Redefine place kind column) = is_type column.kind

-- the table after a change, row by row; it has no conflicts and no violations
abbrev pub table_after : PlainTable → ColumnChange → Outcome PlainTable
table_after table change =
    let schema = schema_after change table.schema in
    and_then (each (small_row_after schema change) table.rows) (λ rows.
    unless (not (is_within_limits schema)) 9010 (Ok (record { schema = schema; rows = rows; conflicts = []; violations = [] })))

-- ---- which column may be changed

-- a CHECK names a column where it says nothing without that column
abbrev pub check_needs : Checks → List ℕ → Schema → CheckDef → Bool
check_needs checks name without check = not (is_some (checks name without check.text))

abbrev pub refers_to : List ℕ → List ℕ → NamedTable → Bool
refers_to table column named = list_any (λ foreign. bytes_eq foreign.parent table && contains foreign.parent_columns column) named.table.schema.foreign

-- the column stands in the primary key, an index, a check or a foreign key of this table or of another
abbrev pub is_used : Checks → PlainDatabase → List ℕ → Schema → List ℕ → ℕ → Bool
is_used checks database name schema column place =
    is_keyed schema.key place
    || list_any (λ index. is_keyed index.columns place) schema.indexes
    || list_any (check_needs checks name (without_column schema place)) schema.checks
    || list_any (λ foreign. is_keyed foreign.columns place) schema.foreign
    || list_any (refers_to name column) database

-- where a column stands that is there and that nothing uses
abbrev pub free_place : Checks → PlainDatabase → List ℕ → Schema → List ℕ → Outcome ℕ
free_place checks database name schema column =
    and_then (or_refuse 1054 (column_place schema column)) (λ place. unless (is_used checks database name schema column place) 9013 (Ok place))

-- ---- which change an action is

abbrev pub column_after : ColumnElement → Outcome Column
column_after column = defined column.name (altered_column column)

abbrev pub kind_at : Schema → ℕ → Option Kind
kind_at schema place = option_and_then (λ column. kind_of column.kind) (slice_get schema.columns place)

abbrev pub redefined_from : ℕ → Column → Kind → Outcome ColumnChange
redefined_from place column kind = if may_assign kind column.kind then Ok (change.Redefine place kind column) else mismatch

abbrev pub redefined : Schema → ℕ → Column → Outcome ColumnChange
redefined schema place column = and_then (or_refuse 9001 (kind_at schema place)) (redefined_from place column)

abbrev pub change_of : Checks → PlainDatabase → List ℕ → Schema → AlterAction → Outcome ColumnChange
change_of checks database name schema (action.Add column) =
    unless (is_some (column_place schema column.name)) 9013 (and_then (column_after column) (λ made. Ok (change.Add made)))
change_of checks database name schema (action.Drop column) =
    and_then (free_place checks database name schema column) (λ place. Ok (change.Remove place))
change_of checks database name schema (action.Modify column) =
    and_then (free_place checks database name schema column.name) (λ place. and_then (column_after column) (redefined schema place))

-- ---- the whole

-- a merge has left something open
abbrev pub is_open : PlainTable → Bool
is_open table = not (is_empty table.conflicts) || not (is_empty table.violations)

abbrev pub altered : Checks → PlainDatabase → Alter → PlainTable → Outcome Effect
altered checks database alter table =
    unless (is_open table) 9011
    (and_then (change_of checks database alter.table table.schema alter.action) (λ change.
    and_then (table_after table change) (λ after. Ok (changed_to (replaced alter.table after database)))))

abbrev pub alter_effect : Checks → PlainDatabase → Alter → Outcome Effect
alter_effect checks database alter = on_table database alter.table (altered checks database alter)
