-- What INSERT, UPDATE and DELETE make of a database, or their first refusal.
use Rattle.std.specs.Prelude.{ℕ, ◌==◌, Bool, true, false, ◌&&◌, not, nat_lt, if◌then◌else◌, List, [], ◌∷◌, ◌++◌, map, filter, length, set, Option, None, Some, Result, Ok, Err, slice_get, unwrap_or}
use Rattle.std.specs.List.{list_any, position, enumerate_from, range_with_len, count_by}
use Rattle.std.specs.Option.{option_and_then, option_to_list}
use Rattle.std.specs.Ordering.{on}
use Rattle.std.specs.declared.cmp.Ordering.{Ordering}
use Rattle.tuple_codec.specs.Rows.{Cells, cell_at, key_cmp, same_cells}
use Rattle.tuple_codec.specs.declared.values.Value.{Value}
use Rattle.tuple_codec.specs.declared.values.Value.TheVariants as cell
use Rattle.schema_model.specs.declared.schemas.Column.{Column}
use Rattle.schema_model.specs.declared.schemas.Schema.{Schema}
use Rattle.schema_model.specs.PlainTables.{PlainTable, NamedTable, PlainDatabase, primary_key}
use Rattle.schema_model.specs.Limits.{is_row_within_limits, most_rows}
use Rattle.sql_values.specs.Kinds.{may_assign}
use Rattle.sql_values.specs.Assigning.{misfit_number, stored}
use Rattle.sql_values.specs.declared.assigning.Misfit.{Misfit}
use Rattle.sql_values.specs.declared.kinds.Kind.{Kind}
use Rattle.sql_ast.specs.declared.expressions.Expr.{Expr}
use Rattle.sql_ast.specs.declared.statements.Insert.{Insert}
use Rattle.sql_ast.specs.declared.statements.InsertCell.{InsertCell}
use Rattle.sql_ast.specs.declared.statements.InsertCell.TheVariants as entry
use Rattle.sql_ast.specs.declared.statements.Update.{Update}
use Rattle.sql_ast.specs.declared.statements.Assignment.{Assignment}
use Rattle.sql_ast.specs.declared.statements.Delete.{Delete}
use Rattle.expr_eval.specs.Binding.{Outcome, and_then, mismatch, bound}
use Rattle.expr_eval.specs.declared.bound.BoundExpr.{BoundExpr}
use Rattle.expr_eval.specs.declared.scopes.ScopeColumn.{ScopeColumn}
use Rattle.plain_writes.specs.declared.updating.Later.{Later}
use Rattle.plain_sql.specs.Lists.{or_refuse, unless, each, in_order, repeats}
use Rattle.plain_sql.specs.Answers.{Meaning, given, is_null, passes}
use Rattle.plain_sql.specs.Plans.{condition, meaning}
use Rattle.plain_writes.specs.Violations.{Checks, table_in, is_called, own_scope, column_place, first_violation}

pub record Effect : Type 0 where
  pub database : PlainDatabase
  -- how many rows were written, where the reply tells
  pub count : Option ℕ

-- ---- cells and rows

abbrev pub or_misfit : Result Value Misfit → Outcome Value
or_misfit (Ok value) = Ok value
or_misfit (Err misfit) = Err (misfit_number misfit)

abbrev pub assigned : Kind → Column → Value → Outcome Value
assigned kind column value = or_misfit (stored kind column.kind column.not_null value)

-- the row, its primary key or its columns in an index are longer than they may be
abbrev pub is_large : Schema → Cells → Bool
is_large schema row = not (is_row_within_limits schema row)

abbrev pub if_small : Schema → Cells → Outcome Cells
if_small schema row = unless (is_large schema row) 9010 (Ok row)

-- ---- the whole result

abbrev pub keyed_cmp : Schema → Cells → Cells → Ordering
keyed_cmp schema = on (primary_key schema) key_cmp

-- rows in the order of their keys, each key once
abbrev pub by_key : Schema → List Cells → Outcome (List Cells)
by_key schema rows = unless (repeats (keyed_cmp schema) rows) 1062 (Ok (in_order (keyed_cmp schema) rows))

abbrev pub with_rows : PlainTable → List Cells → PlainTable
with_rows table rows = record { schema = table.schema; rows = rows; conflicts = table.conflicts; violations = table.violations }

abbrev pub replaced_in : List ℕ → PlainTable → NamedTable → NamedTable
replaced_in name table named = if is_called name named then record { name = name; table = table } else named

abbrev pub replaced : List ℕ → PlainTable → PlainDatabase → PlainDatabase
replaced name table database = map (replaced_in name table) database

abbrev pub effect_if : Option ℕ → Bool → Effect → Outcome Effect
effect_if (Some number) large effect = Err number
effect_if None large effect = unless large 9010 (Ok effect)

-- by new violations, then by the number of rows
abbrev pub judged : Checks → PlainDatabase → List Cells → Effect → Outcome Effect
judged checks old rows effect = effect_if (first_violation checks old effect.database) (nat_lt most_rows (length rows)) effect

abbrev pub filled : Checks → PlainDatabase → List ℕ → PlainTable → ℕ → List Cells → Outcome Effect
filled checks old name table count rows = judged checks old rows (record { database = replaced name (with_rows table rows) old; count = Some count })

-- the table with these rows, so many of which were written
abbrev pub result_of : Checks → PlainDatabase → List ℕ → PlainTable → List Cells → ℕ → Outcome Effect
result_of checks old name table rows count = and_then (by_key table.schema rows) (filled checks old name table count)

-- ---- INSERT

-- what a tuple says of a column: nothing, or a value
pub data Said : Type 0 where
  Nothing : Said
  Worth : Kind → Meaning → Said

abbrev pub said_if : Column → BoundExpr → Outcome Said
said_if column bound = if may_assign bound.kind column.kind then Ok (Worth bound.kind (meaning bound)) else mismatch

abbrev pub said_by : Column → InsertCell → Outcome Said
said_by column entry.Default = Ok Nothing
said_by column (entry.Value expr) = and_then (bound [] expr) (said_if column)

abbrev pub named_place : Schema → List ℕ → Outcome ℕ
named_place schema name = or_refuse 1054 (column_place schema name)

-- the columns that an INSERT names, by their places; all, in their order, where it names none
abbrev pub places_named : Schema → Option (List (List ℕ)) → Outcome (List ℕ)
places_named schema None = Ok (range_with_len 0 (length schema.columns))
places_named schema (Some names) = each (named_place schema) names

abbrev pub entry_said : Schema → InsertCell → ℕ → Outcome Said
entry_said schema given place = and_then (or_refuse 1054 (slice_get schema.columns place)) (λ column. said_by column given)

-- the entry at a place of a tuple is about the column that is named there
abbrev pub entry_at : Schema → List ℕ → ℕ × InsertCell → Outcome Said
entry_at schema places x = and_then (or_refuse 1136 (slice_get places x.0)) (entry_said schema x.1)

abbrev pub tuple_said : Schema → List ℕ → List InsertCell → Outcome (List Said)
tuple_said schema places tuple = unless (not (length tuple == length places)) 1136 (each (entry_at schema places) (enumerate_from 0 tuple))

-- what is said of the column at a place
abbrev pub said_of : List ℕ → List Said → ℕ → Option Said
said_of places said place = option_and_then (slice_get said) (position (λ other. other == place) places)

abbrev pub taken : Column → Value → Outcome Value
taken column value = unless (column.not_null && is_null value) 1048 (Ok value)

-- a column of which nothing is said has its default, else NULL
abbrev pub standard : Column → Outcome Value
standard column = taken column (unwrap_or column.default cell.Null)

abbrev pub cell_said : Column → Option Said → Outcome Value
cell_said column (Some (Worth kind meaning)) = and_then (given meaning []) (assigned kind column)
cell_said column (Some Nothing) = standard column
cell_said column None = standard column

abbrev pub new_cell : List ℕ → List Said → ℕ × Column → Outcome Value
new_cell places said x = cell_said x.1 (said_of places said x.0)

-- in the table's order of columns
abbrev pub new_row : Schema → List ℕ → List Said → Outcome Cells
new_row schema places said = and_then (each (new_cell places said) (enumerate_from 0 schema.columns)) (if_small schema)

abbrev pub inserted : Checks → PlainDatabase → Insert → PlainTable → Outcome Effect
inserted checks database insert table =
    and_then (places_named table.schema insert.columns) (λ places.
    and_then (each (tuple_said table.schema places) insert.tuples) (λ said.
    and_then (each (new_row table.schema places) said) (λ rows.
    result_of checks database insert.table table (table.rows ++ rows) (length rows))))

-- ---- UPDATE

pub record Assign : Type 0 where
  pub place : ℕ
  pub column : Column
  pub kind : Kind
  pub meaning : Meaning

abbrev pub assign_if : ℕ → Column → BoundExpr → Outcome Assign
assign_if place column bound =
    if may_assign bound.kind column.kind then Ok (record { place = place; column = column; kind = bound.kind; meaning = meaning bound }) else mismatch

abbrev pub assign_to : List ScopeColumn → Expr → ℕ → Column → Outcome Assign
assign_to scope expr place column = and_then (bound scope expr) (assign_if place column)

abbrev pub bound_assignment : Schema → List ScopeColumn → Assignment → Outcome Assign
bound_assignment schema scope assignment =
    and_then (or_refuse 1054 (column_place schema assignment.column)) (λ place.
    and_then (or_refuse 1054 (slice_get schema.columns place)) (assign_to scope assignment.value place))

-- from left to right; a right side sees the values assigned before it
abbrev pub row_after : List Assign → Cells → Outcome Cells
row_after [] row = Ok row
row_after (one ∷ more) row =
    and_then (given one.meaning row) (λ value. and_then (assigned one.kind one.column value) (λ kept. row_after more (set row one.place kept)))

abbrev pub assigns : List Assign → ℕ → Bool
assigns sets place = list_any (λ one. one.place == place) sets

-- a NOT NULL column that no assignment names and that has NULL
abbrev pub keeps_null_at : List Assign → Cells → ℕ × Column → Bool
keeps_null_at sets row x = x.1.not_null && not (assigns sets x.0) && is_null (cell_at row x.0)

abbrev pub keeps_null : Schema → List Assign → Cells → Bool
keeps_null schema sets row = list_any (keeps_null_at sets row) (enumerate_from 0 schema.columns)

abbrev pub untouched : Cells → Later
untouched row = record { row = row; is_new = false }

abbrev pub if_changed : Schema → List Assign → Cells → Cells → Outcome Later
if_changed schema sets old new =
    if same_cells old new then Ok (untouched old) else unless (keeps_null schema sets new) 1048 (Ok (record { row = new; is_new = true }))

abbrev pub if_small_turned : Schema → Later → Outcome Later
if_small_turned schema one = unless (one.is_new && is_large schema one.row) 9010 (Ok one)

abbrev pub turned_if : Schema → List Assign → Cells → Bool → Outcome Later
turned_if schema sets row chosen = if chosen then and_then (row_after sets row) (if_changed schema sets row) else Ok (untouched row)

-- WHERE of a row is evaluated just before its cells
abbrev pub turned : Schema → List Meaning → List Assign → Cells → Outcome Later
turned schema tests sets row = and_then (passes tests row) (turned_if schema sets row)

abbrev pub turned_small : Schema → List Meaning → List Assign → Cells → Outcome Later
turned_small schema tests sets row = and_then (turned schema tests sets row) (if_small_turned schema)

abbrev pub tests_of : List ScopeColumn → Option Expr → Outcome (List Meaning)
tests_of scope filter = each (condition scope) (option_to_list filter)

abbrev pub updated : Checks → PlainDatabase → Update → PlainTable → Outcome Effect
updated checks database update table =
    let scope = own_scope update.table table.schema in
    and_then (each (bound_assignment table.schema scope) update.assignments) (λ sets.
    and_then (tests_of scope update.filter) (λ tests.
    and_then (each (turned_small table.schema tests sets) table.rows) (λ rows.
    result_of checks database update.table table (map (λ one. one.row) rows) (count_by (λ one. one.is_new) rows))))

-- ---- DELETE

abbrev pub stays : List Meaning → Cells → Outcome Later
stays tests row = and_then (passes tests row) (λ chosen. Ok (record { row = row; is_new = chosen }))

-- the rows that aren't chosen
abbrev pub rest_of : List Later → List Cells
rest_of rows = map (λ one. one.row) (filter (λ one. not one.is_new) rows)

abbrev pub deleted : Checks → PlainDatabase → Delete → PlainTable → Outcome Effect
deleted checks database delete table =
    and_then (tests_of (own_scope delete.table table.schema) delete.filter) (λ tests.
    and_then (each (stays tests) table.rows) (λ rows.
    result_of checks database delete.table table (rest_of rows) (count_by (λ one. one.is_new) rows)))

-- ---- the table first

abbrev pub on_table : PlainDatabase → List ℕ → (PlainTable → Outcome Effect) → Outcome Effect
on_table database name next = and_then (or_refuse 1146 (table_in database name)) next

abbrev pub insert_effect : Checks → PlainDatabase → Insert → Outcome Effect
insert_effect checks database insert = on_table database insert.table (inserted checks database insert)

abbrev pub update_effect : Checks → PlainDatabase → Update → Outcome Effect
update_effect checks database update = on_table database update.table (updated checks database update)

abbrev pub delete_effect : Checks → PlainDatabase → Delete → Outcome Effect
delete_effect checks database delete = on_table database delete.table (deleted checks database delete)
