use Rattle.std.proofs.Common.{◌≡◌, ◌++◌, drop}
use Rattle.plain_sql.proofs.levels.joined.Given as goal

abbrev pub invariant-loop-value : goal.invariant-loop-value
invariant-loop-value l = l.row ≡ l.whole.items ++ drop l.value-index l.row

abbrev pub invariant-loop-value-2 : goal.invariant-loop-value-2
invariant-loop-value-2 l = l.row ++ l.more ≡ l.whole.items ++ drop l.value-index l.more
