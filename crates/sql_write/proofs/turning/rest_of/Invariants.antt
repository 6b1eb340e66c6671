use Rattle.std.proofs.Common.{◌≡◌, ◌++◌, drop}
use Rattle.plain_writes.specs.Writes.{rest_of}
use Rattle.sql_write.proofs.turning.rest_of.Given as goal

abbrev pub invariant-loop-one : goal.invariant-loop-one
invariant-loop-one l = rest_of l.later ≡ l.rows ++ rest_of (drop l.one-index l.later)
