-- What a SELECT knows of a database and of system tables, and what of it is read.
use Rattle.std.specs.Prelude.{◌≡◌, ℕ, Bool, List, [], ◌∷◌, ◌++◌, map, filter, bytes_eq, ◌||◌}
use Rattle.std.specs.List.{list_any}
use Rattle.tuple_codec.specs.declared.values.SqlType.{SqlType}
use Rattle.schema_model.specs.declared.schemas.Column.{Column}
use Rattle.schema_model.specs.PlainTables as plain
use Rattle.schema_model.specs.PlainTables.{PlainDatabase}
use Rattle.sql_ast.specs.declared.selects.FromClause.{FromClause}
use Rattle.sql_ast.specs.declared.selects.Query.{Query}
use Rattle.sql_ast.specs.declared.selects.Select.TheVariants as select
use Rattle.plain_sql.specs.Plans.{answer}
use Rattle.plain_sql.specs.declared.sources.Known.{Known}
use Rattle.plain_sql.specs.declared.sources.NamedType.{NamedType}
use Rattle.sql_select.specs.declared.sources.NamedAnswer.{NamedAnswer}

abbrev pub typed_column : Column → NamedType
typed_column column = record { name = column.name; kind = column.kind }

-- a table, by its columns and rows
abbrev pub known_table : plain.NamedTable → Known
known_table named = record { name = named.name; columns = map typed_column named.table.schema.columns; rows = named.table.rows }

-- a name with a type each
abbrev pub typed : List (List ℕ) → List SqlType → List NamedType
typed (name ∷ names) (kind ∷ kinds) = (record { name = name; kind = kind }) ∷ typed names kinds
typed names kinds = []

-- what a system table shows
abbrev pub known_system : NamedAnswer → Known
known_system named = record { name = named.name; columns = typed named.answer.names named.answer.kinds; rows = named.answer.rows }

-- the tables of the database, and then the system tables
abbrev pub known : PlainDatabase → List NamedAnswer → List Known
known database system = map known_table database ++ map known_system system

-- the SELECT names it among its sources
abbrev pub is_read : FromClause → List ℕ → Bool
is_read from name = bytes_eq name from.first.table || list_any (λ join. bytes_eq name join.source.table) from.joins

-- those of them that the SELECT names
abbrev pub known_read : FromClause → PlainDatabase → List NamedAnswer → List Known
known_read from database system =
    map known_table (filter (λ named. is_read from named.name) database) ++ map known_system (filter (λ named. is_read from named.name) system)

-- what a SELECT shows of all that is known it shows of what it names
abbrev pub ReadsSuffice : Type 0
ReadsSuffice = (database : PlainDatabase) (system : List NamedAnswer) (query : Query) → answer (known_read query.from database system) (select.From query) ≡ answer (known database system) (select.From query)
