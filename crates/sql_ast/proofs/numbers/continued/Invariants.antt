use Rattle.std.proofs.Common.{◌≡◌, drop}
use Rattle.sql_ast.specs.Values.{number_from}
use Rattle.sql_ast.proofs.numbers.continued.Given as goal

-- the digits that are left go on with the number that was read
abbrev pub invariant-loop-digit : goal.invariant-loop-digit
invariant-loop-digit l = number_from l.number (drop l.digit-index l.digits) ≡ number_from l.value l.digits
