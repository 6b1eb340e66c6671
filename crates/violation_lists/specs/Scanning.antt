-- Databases and tables, as scans read them.
use Rattle.std.specs.Prelude.{◌||◌, Bool, List, ℕ, not, [], map, bytes_eq, if◌then◌else◌}
use Rattle.std.specs.List.{list_any}
use Rattle.schema_model.specs.Schemas.{is_empty}
use Rattle.schema_model.specs.declared.schemas.Schema.{Schema}
use Rattle.schema_model.specs.PlainTables as plain
use Rattle.schema_model.specs.PlainTables.{PlainDatabase, PlainTable}

-- a table by its schema and rows alone: what a constraint looks at
abbrev pub bare_table : PlainTable → PlainTable
bare_table table = record { schema = table.schema; rows = table.rows; conflicts = []; violations = [] }

abbrev pub bare_named : plain.NamedTable → plain.NamedTable
bare_named named = record { name = named.name; table = bare_table named.table }

abbrev pub bare : PlainDatabase → PlainDatabase
bare database = map bare_named database

-- a table by its schema alone
abbrev pub empty_table : PlainTable → PlainTable
empty_table table = record { schema = table.schema; rows = []; conflicts = []; violations = [] }

abbrev pub empty_named : plain.NamedTable → plain.NamedTable
empty_named named = record { name = named.name; table = empty_table named.table }

abbrev pub skeleton : PlainDatabase → PlainDatabase
skeleton database = map empty_named database

-- a unique index, a CHECK or a foreign key: what rows may break beside NOT NULL
abbrev pub is_constrained : Schema → Bool
is_constrained schema = list_any (λ index. index.unique) schema.indexes || (not (is_empty schema.checks) || not (is_empty schema.foreign))

-- some table has one
abbrev pub has_constraints : PlainDatabase → Bool
has_constraints database = list_any (λ named. is_constrained named.table.schema) database

-- the same of one of these, and of all, once the table of this name has this schema
abbrev pub constrained_beside : List ℕ → Schema → List ℕ → Schema → Bool
constrained_beside name schema other its = if bytes_eq other name then is_constrained schema else is_constrained its

abbrev pub has_constraints_beside : List ℕ → Schema → PlainDatabase → Bool
has_constraints_beside name schema database = list_any (λ named. constrained_beside name schema named.name named.table.schema) database
