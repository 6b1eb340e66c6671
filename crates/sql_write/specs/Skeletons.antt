-- CREATE, DROP and ALTER look at the schemas of a database, and ALTER at the rows of its own table.
use Rattle.std.specs.Prelude.{◌≡◌, Bool, true, false, ◌||◌, not, nat_le, if◌then◌else◌, List, ℕ, length, Option, None, Some, Ok, Err}
use Rattle.std.specs.List.{list_any}
use Rattle.schema_model.specs.declared.schemas.Schema.{Schema}
use Rattle.schema_model.specs.Limits.{is_within_limits, most_tables}
use Rattle.schema_model.specs.PlainTables.{PlainDatabase, PlainTable}
use Rattle.sql_ast.specs.declared.statements.Alter.{Alter}
use Rattle.sql_ast.specs.declared.statements.AlterAction.{AlterAction}
use Rattle.sql_ast.specs.declared.tables.CreateTable.{CreateTable}
use Rattle.sql_ast.specs.declared.tables.DropTable.{DropTable}
use Rattle.expr_eval.specs.Binding.{Outcome, and_then}
use Rattle.plain_sql.specs.Lists.{unless}
use Rattle.plain_writes.specs.Violations.{Checks, own_scope}
use Rattle.plain_writes.specs.Writes.{Effect, replaced}
use Rattle.plain_schemas.specs.Altered.{altered, change_of, is_open, table_after}
use Rattle.plain_schemas.specs.Effects.{changed_to, check_allowed, create_effect, drop_effect, foreign_allowed, is_child, is_there, key_lists, with_table, without_table}
use Rattle.plain_schemas.specs.Lists.{all_allowed}
use Rattle.plain_schemas.specs.Made.{columns_made, schema_of}
use Rattle.violation_lists.specs.Scanning.{skeleton}

-- ---- CREATE

abbrev pub schema_within : PlainDatabase → Schema → Outcome (Option Schema)
schema_within database schema = unless (not (is_within_limits schema) || nat_le most_tables (length database)) 9010 (Ok (Some schema))

abbrev pub schema_judged : PlainDatabase → CreateTable → Schema → Outcome (Option Schema)
schema_judged database create schema =
    and_then (all_allowed (check_allowed (own_scope create.table schema)) create.elements) (λ checked.
    and_then (all_allowed (foreign_allowed database create.table schema.columns (key_lists schema)) create.elements) (λ referred.
    schema_within database schema))

-- the schema of the table that comes, none where one of its name may stand already, or the first refusal
abbrev pub schema_created : PlainDatabase → CreateTable → Outcome (Option Schema)
schema_created database create =
    if is_there database create.table then (if create.if_not_exists then Ok None else Err 1050)
    else and_then (columns_made create.elements) (λ columns. schema_judged database create (schema_of create columns))

abbrev pub with_schema : PlainDatabase → List ℕ → Option Schema → PlainDatabase
with_schema database name None = database
with_schema database name (Some schema) = with_table database name schema

-- ---- DROP

-- whether a table goes, or the first refusal
abbrev pub table_goes : PlainDatabase → DropTable → Outcome Bool
table_goes database statement =
    if is_there database statement.table
    then unless (list_any (is_child statement.table) database) 1451 (Ok true)
    else (if statement.if_exists then Ok false else Err 1146)

abbrev pub without_if : PlainDatabase → List ℕ → Bool → PlainDatabase
without_if database name goes = if goes then without_table name database else database

-- ---- ALTER

-- the table after the change, or the first refusal of a table that is there
abbrev pub table_altered : Checks → PlainDatabase → Alter → PlainTable → Outcome PlainTable
table_altered checks database alter table =
    unless (is_open table) 9011 (and_then (change_of checks database alter.table table.schema alter.action) (λ change. table_after table change))

abbrev pub with_altered : PlainDatabase → List ℕ → PlainTable → Outcome Effect
with_altered database name after = Ok (changed_to (replaced name after database))

-- ---- the laws

pub record SchemasSuffice : Type 0 where
  -- what CREATE and DROP do is told by a schema and by a yes or no
  pub create : (database : PlainDatabase) (create : CreateTable)
      → create_effect database create ≡ and_then (schema_created database create) (λ made. Ok (changed_to (with_schema database create.table made)))
  pub drop : (database : PlainDatabase) (statement : DropTable)
      → drop_effect database statement ≡ and_then (table_goes database statement) (λ goes. Ok (changed_to (without_if database statement.table goes)))
  -- what ALTER does, by a table
  pub alter : (checks : Checks) (database : PlainDatabase) (alter : Alter) (table : PlainTable)
      → altered checks database alter table ≡ and_then (table_altered checks database alter table) (with_altered database alter.table)
  -- these, and the change that an ALTER makes, are the same for the schemas alone
  pub created : (database : PlainDatabase) (create : CreateTable) → schema_created (skeleton database) create ≡ schema_created database create
  pub goes : (database : PlainDatabase) (statement : DropTable) → table_goes (skeleton database) statement ≡ table_goes database statement
  pub change : (checks : Checks) (database : PlainDatabase) (name : List ℕ) (schema : Schema) (action : AlterAction)
      → change_of checks (skeleton database) name schema action ≡ change_of checks database name schema action
