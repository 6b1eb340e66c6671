use Rattle.std.proofs.Common.{◌≡◌, drop}
use Rattle.sql_procedures.specs.Arguments.{commit_from, no_commit}
use Rattle.sql_procedures.proofs.commits.take_all.Given as goal

-- what was seen, and the arguments that are left, say what all say
abbrev pub invariant-loop-argument : goal.invariant-loop-argument
invariant-loop-argument l = commit_from l.seen (drop l.argument-index l.arguments) ≡ commit_from no_commit l.arguments
