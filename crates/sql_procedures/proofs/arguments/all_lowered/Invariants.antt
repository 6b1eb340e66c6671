use Rattle.std.proofs.Common.{◌≡◌, ◌++◌, drop, map}
use Rattle.std.specs.Str.{str_to_ascii_lowercase}
use Rattle.sql_procedures.proofs.arguments.all_lowered.Given as goal

-- what is done, and what is left to do, are all
abbrev pub invariant-loop-argument : goal.invariant-loop-argument
invariant-loop-argument l = l.names ++ map str_to_ascii_lowercase (drop l.argument-index l.arguments) ≡ map str_to_ascii_lowercase l.arguments
