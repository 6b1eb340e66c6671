use Rattle.std.proofs.Common.{◌≡◌, ◌++◌, drop, map}
use Rattle.sql_write.proofs.turning.rows_of.Given as goal

abbrev pub invariant-loop-one : goal.invariant-loop-one
invariant-loop-one l = map (λ one. one.row) l.later ≡ l.rows ++ map (λ one. one.row) (drop l.one-index l.later)
