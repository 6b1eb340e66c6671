use Rattle.std.proofs.Common.{◌≡◌, ◌++◌, drop}
use Rattle.plain_writes.proofs.copies.copy_violations.Given as goal

abbrev pub invariant-loop-broken : goal.invariant-loop-broken
invariant-loop-broken l = l.violations ≡ l.copy ++ drop l.broken-index l.violations
