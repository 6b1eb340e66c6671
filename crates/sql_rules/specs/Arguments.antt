-- Which calls of a procedure have arguments that it doesn't take.
use Rattle.std.specs.Prelude.{Bool, false, List, ℕ, Option, Some, None, not}
use Rattle.sql_ast.specs.declared.statements.Call.{Call}
use Rattle.sql_procedures.specs.Arguments.{procedure_of, takes}
use Rattle.sql_procedures.specs.declared.procedures.Procedure.{Procedure}

-- what is no procedure of the language is outside it, and not misused
abbrev pub is_refused : Option Procedure → List (List ℕ) → Bool
is_refused (Some called) arguments = not (takes called arguments)
is_refused None arguments = false

abbrev pub misused : Call → Bool
misused call = is_refused (procedure_of call.name) call.arguments
