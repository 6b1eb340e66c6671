use Rattle.std.proofs.Common.{◌≡◌, ◌++◌, drop}
use Rattle.plain_writes.proofs.copies.copy_keys.Given as goal

abbrev pub invariant-loop-key : goal.invariant-loop-key
invariant-loop-key l = l.keys ≡ l.copy ++ drop l.key-index l.keys
