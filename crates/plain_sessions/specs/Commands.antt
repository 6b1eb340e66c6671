-- What a statement's text asks of a session.
use Rattle.std.specs.Prelude.{ℕ, List, Option, Result, Ok, Err}
use Rattle.std.specs.Option.{option_and_then, option_map_or}
use Rattle.sql_ast.specs.declared.faults.Refusal.{Refusal}
use Rattle.sql_ast.specs.declared.selects.Select.{Select}
use Rattle.sql_ast.specs.declared.selects.Select.TheVariants as select
use Rattle.sql_ast.specs.declared.statements.Call.{Call}
use Rattle.sql_ast.specs.declared.statements.Statement.{Statement}
use Rattle.sql_ast.specs.declared.statements.Statement.TheVariants as statement
use Rattle.sql_parse.specs.Parsing.{parsed}
use Rattle.sql_procedures.specs.Arguments.{procedure_of, request_of}
use Rattle.sql_procedures.specs.declared.requests.Request.{Request}
use Rattle.sql_procedures.specs.declared.requests.Request.TheVariants as request
use Rattle.plain_sessions.specs.declared.commands.Command.{Command}
use Rattle.plain_sessions.specs.declared.commands.Command.TheVariants.{Faulty, Begin, CommitAll, Rollback, Switch, Say, Data, OnBranches, Checkout}
use Rattle.plain_sessions.specs.declared.commands.Work.TheVariants.{Ask, Change, Add, ResetTo, Commit, Merge, Resolve, Verify}

-- a SELECT has sources or not
abbrev pub select_command : Select → Command
select_command (select.From query) = Data (Ask (select.From query))
select_command (select.Alone list) = Say (select.Alone list)

abbrev pub request_command : Request → Command
request_command (request.Add tables) = Data (Add tables)
request_command (request.Reset reset) = Data (ResetTo reset)
request_command (request.Commit commit) = Data (Commit commit)
request_command (request.Branch branch) = OnBranches branch
request_command (request.Checkout checkout) = Checkout checkout
request_command (request.Merge merge) = Data (Merge merge)
request_command (request.ConflictsResolve resolution) = Data (Resolve resolution)
request_command (request.VerifyConstraints verification) = Data (Verify verification)

abbrev pub misused : Command
misused = Faulty (record { number = 9008; at = 0 })

-- a text that is a statement calls a procedure with arguments that it takes
abbrev pub requested : Option Request → Command
requested request = option_map_or request_command request misused

abbrev pub call_command : Call → Command
call_command call = requested (option_and_then (λ procedure. request_of procedure call.arguments) (procedure_of call.name))

abbrev pub statement_command : Statement → Command
statement_command (statement.Write write) = Data (Change write)
statement_command (statement.Select select) = select_command select
statement_command statement.Begin = Begin
statement_command statement.Start = Begin
statement_command statement.Commit = CommitAll
statement_command statement.Rollback = Rollback
statement_command (statement.Set setting) = Switch setting
statement_command (statement.Call call) = call_command call

abbrev pub command_or_fault : Result Statement Refusal → Command
command_or_fault (Ok statement) = statement_command statement
command_or_fault (Err refusal) = Faulty refusal

-- what a text asks, of the whole language
unfoldable pub command : List ℕ → Command
command text = command_or_fault (parsed text)
