use Rattle.std.proofs.Common.{◌≡◌, ◌++◌, drop}
use Rattle.schema_merge.proofs.merged_names.push_copies.Given as goal

abbrev pub invariant-loop-name : goal.invariant-loop-name
invariant-loop-name l = l.out.items ++ drop l.name-index l.names ≡ l.fn.out.items ++ l.names
