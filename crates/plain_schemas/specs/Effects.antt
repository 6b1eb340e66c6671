-- What CREATE TABLE and DROP TABLE make of a database, or their first refusal.
use Rattle.std.specs.Prelude.{ℕ, Bool, ◌&&◌, ◌||◌, not, nat_le, if◌then◌else◌, List, [], ◌∷◌, map, filter, length, None, Ok, Err, bytes_eq}
use Rattle.std.specs.List.{list_any}
use Rattle.std.specs.Ordering.{is_lt, nat_cmp}
use Rattle.std.specs.Cmp.Lexicographic.{slice_cmp}
use Rattle.tuple_codec.specs.declared.values.SqlType.{SqlType}
use Rattle.schema_model.specs.declared.schemas.Column.{Column}
use Rattle.schema_model.specs.declared.schemas.Schema.{Schema}
use Rattle.schema_model.specs.Limits.{is_within_limits, most_tables}
use Rattle.schema_model.specs.PlainTables.{PlainTable, NamedTable, PlainDatabase}
use Rattle.sql_ast.specs.declared.tables.CreateTable.{CreateTable}
use Rattle.sql_ast.specs.declared.tables.DropTable.{DropTable}
use Rattle.sql_ast.specs.declared.tables.Element.{Element}
use Rattle.sql_ast.specs.declared.tables.Element.TheVariants as element
use Rattle.sql_ast.specs.declared.tables.ForeignKeyElement.{ForeignKeyElement}
use Rattle.expr_eval.specs.Binding.{Outcome, and_then}
use Rattle.expr_eval.specs.declared.scopes.ScopeColumn.{ScopeColumn}
use Rattle.plain_sql.specs.Lists.{each, or_refuse, unless}
use Rattle.plain_sql.specs.Plans.{condition}
use Rattle.plain_writes.specs.Violations.{table_in, is_called, own_scope, same_types}
use Rattle.plain_writes.specs.Writes.{Effect}
use Rattle.plain_schemas.specs.Lists.{all_allowed, kinds_at, place_in, places}
use Rattle.plain_schemas.specs.Made.{columns_made, schema_of}

-- a database whose reply tells no rows
abbrev pub changed_to : PlainDatabase → Effect
changed_to database = record { database = database; count = None }

-- a table of that name is there
abbrev pub is_there : PlainDatabase → List ℕ → Bool
is_there database name = list_any (is_called name) database

-- ---- CREATE

-- a CHECK is a condition over the table's columns
abbrev pub check_allowed : List ScopeColumn → Element → Outcome Unit
check_allowed scope (element.Check name expr) = and_then (condition scope expr) (λ meaning. Ok tt)
check_allowed scope other = Ok tt

-- where the columns stand to which a foreign key may refer: the primary key's, and those of each unique index
abbrev pub key_lists : Schema → List (List ℕ)
key_lists schema = schema.key ∷ map (λ index. index.columns) (filter (λ index. index.unique) schema.indexes)

-- these columns of the parent are such a list, in its order, and have the types of the foreign key's own columns
abbrev pub fits_parent : List SqlType → List Column → List (List ℕ) → List ℕ → Outcome Unit
fits_parent kinds columns keys at = unless (not (list_any (bytes_eq at) keys && same_types (kinds_at columns at) kinds)) 9013 (Ok tt)

abbrev pub parent_place : List Column → List ℕ → Outcome ℕ
parent_place columns name = or_refuse 1054 (place_in columns name)

abbrev pub refers_well : List (List ℕ) → List SqlType → List Column → List (List ℕ) → Outcome Unit
refers_well names kinds columns keys = and_then (each (parent_place columns) names) (fits_parent kinds columns keys)

abbrev pub refers_to_other : List (List ℕ) → List SqlType → PlainTable → Outcome Unit
refers_to_other names kinds table = refers_well names kinds table.schema.columns (key_lists table.schema)

-- a table may refer to itself, to its own columns and keys
abbrev pub key_allowed : PlainDatabase → List ℕ → List Column → List (List ℕ) → ForeignKeyElement → Outcome Unit
key_allowed database name columns keys key =
    let kinds = kinds_at columns (places columns key.columns) in
    if bytes_eq key.parent name then refers_well key.parent_columns kinds columns keys
    else and_then (or_refuse 1146 (table_in database key.parent)) (refers_to_other key.parent_columns kinds)

abbrev pub foreign_allowed : PlainDatabase → List ℕ → List Column → List (List ℕ) → Element → Outcome Unit
foreign_allowed database name columns keys (element.ForeignKey key) = key_allowed database name columns keys key
foreign_allowed database name columns keys other = Ok tt

abbrev pub empty_table : Schema → PlainTable
empty_table schema = record { schema = schema; rows = []; conflicts = []; violations = [] }

-- a table more, in its place by name
abbrev pub placed_in : NamedTable → PlainDatabase → PlainDatabase
placed_in new [] = new ∷ []
placed_in new (named ∷ more) = if is_lt (slice_cmp nat_cmp new.name named.name) then new ∷ named ∷ more else named ∷ placed_in new more

abbrev pub with_table : PlainDatabase → List ℕ → Schema → PlainDatabase
with_table database name schema = placed_in (record { name = name; table = empty_table schema }) database

abbrev pub if_within : PlainDatabase → List ℕ → Schema → Outcome Effect
if_within database name schema =
    unless (not (is_within_limits schema) || nat_le most_tables (length database)) 9010 (Ok (changed_to (with_table database name schema)))

-- the CHECKs from left to right, then the foreign keys, then the limits
abbrev pub judged : PlainDatabase → CreateTable → Schema → Outcome Effect
judged database create schema =
    and_then (all_allowed (check_allowed (own_scope create.table schema)) create.elements) (λ checked.
    and_then (all_allowed (foreign_allowed database create.table schema.columns (key_lists schema)) create.elements) (λ referred.
    if_within database create.table schema))

abbrev pub create_effect : PlainDatabase → CreateTable → Outcome Effect
create_effect database create =
    if is_there database create.table then (if create.if_not_exists then Ok (changed_to database) else Err 1050)
    else and_then (columns_made create.elements) (λ columns. judged database create (schema_of create columns))

-- ---- DROP

-- another table has a foreign key to this one
abbrev pub is_child : List ℕ → NamedTable → Bool
is_child name named = not (is_called name named) && list_any (λ foreign. bytes_eq foreign.parent name) named.table.schema.foreign

abbrev pub without_table : List ℕ → PlainDatabase → PlainDatabase
without_table name database = filter (λ named. not (is_called name named)) database

abbrev pub drop_effect : PlainDatabase → DropTable → Outcome Effect
drop_effect database statement =
    if is_there database statement.table
    then unless (list_any (is_child statement.table) database) 1451 (Ok (changed_to (without_table statement.table database)))
    else (if statement.if_exists then Ok (changed_to database) else Err 1146)
