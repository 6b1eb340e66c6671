use Rattle.std.proofs.Common.{◌≡◌, ◌++◌, drop, map}
use Rattle.plain_sessions.specs.Statements.{item_with_values}
use Rattle.session_txn.specs.Values.{asked_of}
use Rattle.session_txn.proofs.values.list_with_values.Given as goal

abbrev pub invariant-loop-named : goal.invariant-loop-named
invariant-loop-named l = l.made ++ map (item_with_values (asked_of l.values)) (drop l.named-index l.list) ≡ map (item_with_values (asked_of l.values)) l.list
