use Rattle.std.proofs.Common.{◌≡◌, ◌++◌, ◌-◌}
use Rattle.sql_text.specs.Canon.{opened}
use Rattle.sql_text.proofs.pieces.push_opening.Given as goal

abbrev pub invariant-loop-turn : goal.invariant-loop-turn
invariant-loop-turn l = l.out.items ++ opened (l.count - l._turn) ≡ l.fn.out.items ++ opened l.count
