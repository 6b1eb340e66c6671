use Rattle.std.proofs.Common.{◌≡◌, drop}
use Rattle.sql_procedures.specs.Arguments.{merge_from, no_merge}
use Rattle.sql_procedures.proofs.merges.take_all.Given as goal

-- what was seen, and the arguments that are left, say what all say
abbrev pub invariant-loop-argument : goal.invariant-loop-argument
invariant-loop-argument l = merge_from l.seen (drop l.argument-index l.arguments) ≡ merge_from no_merge l.arguments
