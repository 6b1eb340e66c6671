use Rattle.std.proofs.Common.{◌≡◌, ◌++◌, take}
use Rattle.table_merge.proofs.keyed.push_copies.Given as goal

abbrev pub invariant-loop-key : goal.invariant-loop-key
invariant-loop-key l = l.out.items ≡ l.fn.out.items ++ take l.key-index l.keys
