-- What CREATE, DROP and ALTER find in the schemas of a database.
use Rattle.std.proofs.Common.{◌≡◌, ℕ, Bool, true, false, cond, ◌||◌, not, List, [], ◌∷◌, length, Option, None, Some, Ok, Err, refl, ap, ◌∙◌}
use Rattle.std.specs.Prelude.{bytes_eq, if◌then◌else◌, nat_le}
use Rattle.std.specs.List.{find, list_any}
use Rattle.std.specs.Option.{option_map}
use Rattle.std.proofs.lemmas.List.{length-map}
use Rattle.tuple_codec.specs.declared.values.SqlType.{SqlType}
use Rattle.schema_model.specs.declared.schemas.Column.{Column}
use Rattle.schema_model.specs.declared.schemas.Schema.{Schema}
use Rattle.schema_model.specs.Limits.{is_within_limits, most_tables}
use Rattle.schema_model.specs.PlainTables.{NamedTable, PlainDatabase, PlainTable, is_keyed}
use Rattle.sql_ast.specs.declared.statements.Alter.{Alter}
use Rattle.sql_ast.specs.declared.statements.AlterAction.{AlterAction}
use Rattle.sql_ast.specs.declared.statements.AlterAction.TheVariants as action
use Rattle.sql_ast.specs.declared.tables.CreateTable.{CreateTable}
use Rattle.sql_ast.specs.declared.tables.DropTable.{DropTable}
use Rattle.sql_ast.specs.declared.tables.Element.{Element}
use Rattle.sql_ast.specs.declared.tables.Element.TheVariants as element
use Rattle.sql_ast.specs.declared.tables.ForeignKeyElement.{ForeignKeyElement}
use Rattle.expr_eval.specs.Binding.{Outcome, and_then}
use Rattle.plain_sql.specs.Lists.{or_refuse, unless}
use Rattle.plain_writes.specs.Violations.{Checks, column_place, is_called, own_scope, table_in}
use Rattle.plain_writes.specs.Writes.{Effect}
use Rattle.plain_schemas.specs.Altered.{altered, change_of, is_open, table_after, check_needs, column_after, free_place, redefined, refers_to, without_column}
use Rattle.plain_schemas.specs.Effects.{changed_to, check_allowed, create_effect, drop_effect, foreign_allowed, if_within, is_child, is_there, judged, key_allowed, key_lists, refers_to_other, refers_well, with_table, without_table}
use Rattle.plain_schemas.specs.Lists.{all_allowed, kinds_at, places}
use Rattle.plain_schemas.specs.Made.{columns_made, schema_of}
use Rattle.plain_schemas.specs.declared.changing.ColumnChange.TheVariants as change
use Rattle.violation_lists.specs.Scanning.{empty_named, empty_table, skeleton}
use Rattle.sql_write.specs.Skeletons.{SchemasSuffice, schema_created, schema_judged, schema_within, table_altered, table_goes, with_altered, with_schema, without_if}
use Rattle.sql_write.proofs.TurningLemmas.{under}

-- ---- lists

-- a test that looks at schemas and names
any_told : (test : NamedTable → Bool) (database : PlainDatabase) → ((named : NamedTable) → test (empty_named named) ≡ test named) → list_any test (skeleton database) ≡ list_any test database
any_told test [] told = refl
any_told test (named ∷ database) told = ap (λ b. b || list_any test (skeleton database)) (told named) ∙ ap (λ b. test named || b) (any_told test database told)

still_there : (database : PlainDatabase) (name : List ℕ) → is_there (skeleton database) name ≡ is_there database name
still_there database name = any_told (is_called name) database (λ named. refl)

as_many : (database : PlainDatabase) → length (skeleton database) ≡ length database
as_many database = length-map database empty_named

found_if : (same : Bool) (first : NamedTable) (one other : Option NamedTable) → option_map (λ named. named.table) one ≡ option_map empty_table (option_map (λ named. named.table) other)
    → option_map (λ named. named.table) (cond same (Some (empty_named first)) one) ≡ option_map empty_table (option_map (λ named. named.table) (cond same (Some first) other))
found_if true first one other e = refl
found_if false first one other e = e

found_empty : (database : PlainDatabase) (name : List ℕ) → table_in (skeleton database) name ≡ option_map empty_table (table_in database name)
found_empty [] name = refl
found_empty (first ∷ database) name = found_if (bytes_eq first.name name) first (find (is_called name) (skeleton database)) (find (is_called name) database) (found_empty database name)

-- ---- CREATE

allowed_alike : {A : Type 0} → (one other : A → Outcome Unit) (xs : List A) → ((x : A) → one x ≡ other x) → all_allowed one xs ≡ all_allowed other xs
allowed_alike one other [] same = refl
allowed_alike one other (x ∷ xs) same =
    ap (λ judged. and_then judged (λ done. all_allowed one xs)) (same x) ∙ ap (λ rest. and_then (other x) (λ done. rest)) (allowed_alike one other xs same)

refers_alike : (names : List (List ℕ)) (kinds : List SqlType) (found : Option PlainTable)
    → and_then (or_refuse 1146 (option_map empty_table found)) (refers_to_other names kinds) ≡ and_then (or_refuse 1146 found) (refers_to_other names kinds)
refers_alike names kinds None = refl
refers_alike names kinds (Some table) = refl

key_alike : (database : PlainDatabase) (name : List ℕ) (columns : List Column) (keys : List (List ℕ)) (key : ForeignKeyElement)
    → key_allowed (skeleton database) name columns keys key ≡ key_allowed database name columns keys key
key_alike database name columns keys key =
    let kinds = kinds_at columns (places columns key.columns) in
    ap (λ other. if bytes_eq key.parent name then refers_well key.parent_columns kinds columns keys else other)
    (ap (λ found. and_then (or_refuse 1146 found) (refers_to_other key.parent_columns kinds)) (found_empty database key.parent) ∙ refers_alike key.parent_columns kinds (table_in database key.parent))

foreign_alike : (database : PlainDatabase) (name : List ℕ) (columns : List Column) (keys : List (List ℕ)) (one : Element)
    → foreign_allowed (skeleton database) name columns keys one ≡ foreign_allowed database name columns keys one
foreign_alike database name columns keys (element.ForeignKey key) = key_alike database name columns keys key
foreign_alike database name columns keys other = refl

judged_alike : (database : PlainDatabase) (create : CreateTable) (schema : Schema) → schema_judged (skeleton database) create schema ≡ schema_judged database create schema
judged_alike database create schema =
    ap (λ referred. and_then (all_allowed (check_allowed (own_scope create.table schema)) create.elements) (λ checked. and_then referred (λ done. schema_within (skeleton database) schema)))
    (allowed_alike (foreign_allowed (skeleton database) create.table schema.columns (key_lists schema)) (foreign_allowed database create.table schema.columns (key_lists schema)) create.elements
    (foreign_alike database create.table schema.columns (key_lists schema)))
    ∙ ap (λ number. and_then (all_allowed (check_allowed (own_scope create.table schema)) create.elements) (λ checked.
    and_then (all_allowed (foreign_allowed database create.table schema.columns (key_lists schema)) create.elements) (λ referred.
    unless (not (is_within_limits schema) || nat_le most_tables number) 9010 (Ok (Some schema))))) (as_many database)

then_alike : {A B : Type 0} → (x : Outcome A) (f g : A → Outcome B) → ((y : A) → f y ≡ g y) → and_then x f ≡ and_then x g
then_alike (Ok y) f g same = same y
then_alike (Err number) f g same = refl

created_alike : (database : PlainDatabase) (create : CreateTable) → schema_created (skeleton database) create ≡ schema_created database create
created_alike database create =
    ap (λ there. if there then (if create.if_not_exists then Ok None else Err 1050) else and_then (columns_made create.elements) (λ columns. schema_judged (skeleton database) create (schema_of create columns)))
    (still_there database create.table)
    ∙ ap (λ other. if is_there database create.table then (if create.if_not_exists then Ok None else Err 1050) else other)
    (then_alike (columns_made create.elements) _ _ (λ columns. judged_alike database create (schema_of create columns)))

-- a table more, once its schema is judged
within_splits : (wrong : Bool) (database : PlainDatabase) (name : List ℕ) (schema : Schema)
    → unless wrong 9010 (Ok (changed_to (with_table database name schema)))
    ≡ and_then (unless wrong 9010 (Ok (Some schema))) (λ made. Ok (changed_to (with_schema database name made)))
within_splits true database name schema = refl
within_splits false database name schema = refl

judged_splits : (database : PlainDatabase) (create : CreateTable) (schema : Schema)
    → judged database create schema ≡ and_then (schema_judged database create schema) (λ made. Ok (changed_to (with_schema database create.table made)))
judged_splits database create schema =
    let put : Option Schema → Outcome Effect = λ made. Ok (changed_to (with_schema database create.table made)) in
    let foreign = all_allowed (foreign_allowed database create.table schema.columns (key_lists schema)) create.elements in
    under (all_allowed (check_allowed (own_scope create.table schema)) create.elements) (λ checked. and_then foreign (λ referred. schema_within database schema))
    (λ checked. and_then foreign (λ referred. if_within database create.table schema)) put
    (λ checked. under foreign (λ referred. schema_within database schema) (λ referred. if_within database create.table schema) put
    (λ referred. within_splits (not (is_within_limits schema) || nat_le most_tables (length database)) database create.table schema))

created_if : (there allowed : Bool) (database : PlainDatabase) (name : List ℕ) (other : Outcome Effect) (made : Outcome (Option Schema))
    → other ≡ and_then made (λ schema. Ok (changed_to (with_schema database name schema)))
    → (if there then (if allowed then Ok (changed_to database) else Err 1050) else other)
    ≡ and_then (if there then (if allowed then Ok None else Err 1050) else made) (λ schema. Ok (changed_to (with_schema database name schema)))
created_if true true database name other made e = refl
created_if true false database name other made e = refl
created_if false allowed database name other made e = e

create_splits : (database : PlainDatabase) (create : CreateTable)
    → create_effect database create ≡ and_then (schema_created database create) (λ made. Ok (changed_to (with_schema database create.table made)))
create_splits database create =
    let put : Option Schema → Outcome Effect = λ made. Ok (changed_to (with_schema database create.table made)) in
    created_if (is_there database create.table) create.if_not_exists database create.table
    (and_then (columns_made create.elements) (λ columns. judged database create (schema_of create columns)))
    (and_then (columns_made create.elements) (λ columns. schema_judged database create (schema_of create columns)))
    (under (columns_made create.elements) (λ columns. schema_judged database create (schema_of create columns)) (λ columns. judged database create (schema_of create columns)) put
    (λ columns. judged_splits database create (schema_of create columns)))

-- ---- DROP

goes_alike : (database : PlainDatabase) (statement : DropTable) → table_goes (skeleton database) statement ≡ table_goes database statement
goes_alike database statement =
    ap (λ there. if there then unless (list_any (is_child statement.table) (skeleton database)) 1451 (Ok true) else (if statement.if_exists then Ok false else Err 1146)) (still_there database statement.table)
    ∙ ap (λ child. if is_there database statement.table then unless child 1451 (Ok true) else (if statement.if_exists then Ok false else Err 1146))
    (any_told (is_child statement.table) database (λ named. refl))

drop_if : (there child exists : Bool) (database : PlainDatabase) (name : List ℕ)
    → (if there then unless child 1451 (Ok (changed_to (without_table name database))) else (if exists then Ok (changed_to database) else Err 1146))
    ≡ and_then (if there then unless child 1451 (Ok true) else (if exists then Ok false else Err 1146)) (λ goes. Ok (changed_to (without_if database name goes)))
drop_if true true exists database name = refl
drop_if true false exists database name = refl
drop_if false child true database name = refl
drop_if false child false database name = refl

drop_splits : (database : PlainDatabase) (statement : DropTable)
    → drop_effect database statement ≡ and_then (table_goes database statement) (λ goes. Ok (changed_to (without_if database statement.table goes)))
drop_splits database statement = drop_if (is_there database statement.table) (list_any (is_child statement.table) database) statement.if_exists database statement.table

-- ---- ALTER

free_alike : (checks : Checks) (database : PlainDatabase) (name : List ℕ) (schema : Schema) (column : List ℕ)
    → free_place checks (skeleton database) name schema column ≡ free_place checks database name schema column
free_alike checks database name schema column =
    then_alike (or_refuse 1054 (column_place schema column)) _ _ (λ place.
    ap (λ referred. unless (
    is_keyed schema.key place
    || list_any (λ index. is_keyed index.columns place) schema.indexes
    || list_any (check_needs checks name (without_column schema place)) schema.checks
    || list_any (λ foreign. is_keyed foreign.columns place) schema.foreign
    || referred) 9013 (Ok place)) (any_told (refers_to name column) database (λ named. refl)))

change_alike : (checks : Checks) (database : PlainDatabase) (name : List ℕ) (schema : Schema) (one : AlterAction)
    → change_of checks (skeleton database) name schema one ≡ change_of checks database name schema one
change_alike checks database name schema (action.Add column) = refl
change_alike checks database name schema (action.Drop column) =
    ap (λ place. and_then place (λ place. Ok (change.Remove place))) (free_alike checks database name schema column)
change_alike checks database name schema (action.Modify column) =
    ap (λ place. and_then place (λ place. and_then (column_after column) (redefined schema place))) (free_alike checks database name schema column.name)

unless_then : {A B : Type 0} → (wrong : Bool) (number : ℕ) (x : Outcome A) (y : Outcome B) (next : A → Outcome B) → y ≡ and_then x next → unless wrong number y ≡ and_then (unless wrong number x) next
unless_then true number x y next e = refl
unless_then false number x y next e = e

alter_splits : (checks : Checks) (database : PlainDatabase) (alter : Alter) (table : PlainTable)
    → altered checks database alter table ≡ and_then (table_altered checks database alter table) (with_altered database alter.table)
alter_splits checks database alter table =
    let change = change_of checks database alter.table table.schema alter.action in
    unless_then (is_open table) 9011 (and_then change (λ change. table_after table change)) (and_then change (λ change. and_then (table_after table change) (with_altered database alter.table))) (with_altered database alter.table)
    (under change (λ change. table_after table change) (λ change. and_then (table_after table change) (with_altered database alter.table)) (with_altered database alter.table) (λ change. refl))

pub schemas_suffice : SchemasSuffice
schemas_suffice = record { create = create_splits; drop = drop_splits; alter = alter_splits; created = created_alike; goes = goes_alike; change = change_alike }
