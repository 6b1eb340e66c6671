use Rattle.std.proofs.Common.{◌≡◌, ◌+◌, ◌*◌, drop, sum}
use Rattle.shared_db.proofs.opening.all_moments.Given as goal

abbrev pub invariant-loop-number : goal.invariant-loop-number
invariant-loop-number l = l.moments + 2 * sum (drop l.number-index l.statements) ≡ 2 * sum l.statements
