-- What a SELECT finds under a name.
use Rattle.std.specs.Prelude.{ℕ, List, ◌∷◌, [], ◌++◌, filter, map, Ok, Err}
use Rattle.std.specs.List.{find}
use Rattle.expr_eval.specs.Binding.{Outcome, and_then}
use Rattle.plain_sessions.specs.Sessions.{Transaction}
use Rattle.plain_sessions.specs.SystemTables.{branches, commit_ancestors, conflicts, conflicts_of, constraint_violations, log, status, violations_of}
use Rattle.plain_sql.specs.Lists.{or_refuse}
use Rattle.plain_sql.specs.Plans.{is_known_as}
use Rattle.plain_sql.specs.declared.sources.Known.{Known}
use Rattle.plain_sql.specs.declared.sources.NamedType.{NamedType}
use Rattle.schema_model.specs.PlainTables.{PlainDatabase}
use Rattle.sql_ast.specs.declared.selects.FromClause.{FromClause}
use Rattle.sql_select.specs.Sources.{is_read}
use Rattle.sql_select.specs.declared.sources.NamedAnswer.{NamedAnswer}
use Rattle.tuple_codec.specs.Rows.{Cells}
use Rattle.tuple_codec.specs.declared.answers.Answer.{Answer}
use Rattle.tuple_codec.specs.declared.values.SqlType.{SqlType}

abbrev pub with_rows : Known → List Cells → Known
with_rows known rows = record { name = known.name; columns = known.columns; rows = rows }

-- the tables of commits, branches and changes
abbrev pub four_tables : Transaction → List Known
four_tables t = log t ∷ branches t ∷ status t ∷ commit_ancestors t ∷ []

-- the tables of conflicts and of violations in a database
abbrev pub entry_tables_of : PlainDatabase → List Known
entry_tables_of database = conflicts database ∷ constraint_violations database ∷ [] ++ map conflicts_of database ++ map violations_of database

-- those of the working database
abbrev pub entry_tables : Transaction → List Known
entry_tables t = entry_tables_of t.own.working

-- all that a SELECT may name beside the working tables
abbrev pub system_tables : Transaction → List Known
system_tables t = four_tables t ++ entry_tables t

abbrev pub names_of : List NamedType → List (List ℕ)
names_of columns = map (λ column. column.name) columns

abbrev pub kinds_of : List NamedType → List SqlType
kinds_of columns = map (λ column. column.kind) columns

-- a table as an answer
abbrev pub answer_of : Known → Answer
answer_of known = record { names = names_of known.columns; kinds = kinds_of known.columns; rows = known.rows }

-- a table as an answer, under its name
abbrev pub as_named : Known → NamedAnswer
as_named known = record { name = known.name; answer = answer_of known }

-- those of them that a SELECT names
abbrev pub named_read : FromClause → List Known → List NamedAnswer
named_read from tables = filter (λ named. is_read from named.name) (map as_named tables)

-- the system table of a name, refused with 1146 where there is none
abbrev pub system_answer : Transaction → List ℕ → Outcome Answer
system_answer t name = and_then (or_refuse 1146 (find (is_known_as name) (system_tables t))) (λ known. Ok (answer_of known))

-- what the first of a SELECT's sources shows, refused with 1146 where there is none
abbrev pub first_answer : List NamedAnswer → Outcome Answer
first_answer [] = Err 1146
first_answer (named ∷ others) = Ok named.answer
