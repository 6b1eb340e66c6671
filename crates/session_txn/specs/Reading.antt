-- The system tables that a SELECT reads.
use Rattle.std.specs.Prelude.{List, []}
use Rattle.sql_ast.specs.declared.selects.Select.{Select}
use Rattle.sql_ast.specs.declared.selects.Select.TheVariants as select
use Rattle.plain_sessions.specs.Sessions.{Transaction}
use Rattle.sql_select.specs.declared.sources.NamedAnswer.{NamedAnswer}
use Rattle.system_tables.specs.Known.{named_read, system_tables}

abbrev pub system_of : Transaction → Select → List NamedAnswer
system_of t (select.From query) = named_read query.from (system_tables t)
system_of t (select.Alone list) = []
