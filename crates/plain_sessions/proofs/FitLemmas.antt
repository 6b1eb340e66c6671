-- What a text asks is fit for the calls on it.
use Rattle.std.proofs.Common.{◌≡◌, refl, sym, subst, true, List, ℕ, Option, Some, None, Result, Ok, Err, IfOk}
use Rattle.std.specs.Option.{option_and_then}
use Rattle.sql_ast.specs.declared.selects.Select.{Select}
use Rattle.sql_ast.specs.declared.selects.Select.TheVariants as select
use Rattle.sql_ast.specs.declared.statements.Statement.{Statement}
use Rattle.sql_ast.specs.declared.statements.Statement.TheVariants as statement
use Rattle.sql_parse.specs.Parsing.{parsed}
use Rattle.sql_procedures.specs.Arguments.{procedure_of, request_of}
use Rattle.sql_procedures.specs.declared.requests.Request.{Request}
use Rattle.tuple_codec.specs.Texts.{is_utf8}
use Rattle.sql_laws.specs.SoundLaws.{ParsesSound}
use Rattle.plain_sessions.specs.declared.commands.Command.{Command}
use Rattle.plain_sessions.specs.Commands.{command, command_or_fault, requested, select_command, statement_command}
use Rattle.plain_sessions.specs.Fitness.{IsFitCommand}
use Rattle.plain_sessions.proofs.RequestLemmas.{Fits, Held, called_fits}

select_fits : (s : Select) → IsFitCommand (select_command s)
select_fits (select.From query) = tt
select_fits (select.Alone list) = tt

requested_fits : (r : Option Request) → Held Fits r → IsFitCommand (requested r)
requested_fits (Some r) fits = fits
requested_fits None fits = tt

statement_fits : ParsesSound → (text : List ℕ) → is_utf8 text ≡ true → (s : Statement) → parsed text ≡ Ok s → IsFitCommand (statement_command s)
statement_fits law text utf8 (statement.Select s) is = select_fits s
statement_fits law text utf8 (statement.Write w) is = let so = law text (statement.Write w) utf8 is in record { inside = so.0; sound = so.1 }
statement_fits law text utf8 statement.Begin is = tt
statement_fits law text utf8 statement.Start is = tt
statement_fits law text utf8 statement.Commit is = tt
statement_fits law text utf8 statement.Rollback is = tt
statement_fits law text utf8 (statement.Set x) is = tt
statement_fits law text utf8 (statement.Call x) is =
    requested_fits (option_and_then (λ procedure. request_of procedure x.arguments) (procedure_of x.name)) (called_fits (procedure_of x.name) x.arguments)

pub command_fits : ParsesSound → (text : List ℕ) → is_utf8 text ≡ true → IsFitCommand (command text)
unfolding command
command_fits law text utf8 =
    elim (parsed text) as (λ r. parsed text ≡ r → IsFitCommand (command_or_fault r)) [
      | Ok s ↦ λ is. statement_fits law text utf8 s is
      | Err refusal ↦ λ is. tt
    ] refl

-- so is what is kept of it in a box
pub kept_fits : {E : Type 0} (asked : Command) (result : Result Command E) → IfOk result (λ kept. kept ≡ asked) → IsFitCommand asked → IfOk result IsFitCommand
kept_fits asked (Ok kept) is fits = subst (λ (c : Command). IsFitCommand c) (sym is) fits
kept_fits asked (Err fault) is fits = tt
