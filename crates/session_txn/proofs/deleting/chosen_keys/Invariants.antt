use Rattle.std.proofs.Common.{◌≡◌, ◌++◌, map, drop, Ok}
use Rattle.expr_eval.specs.Binding.{and_then}
use Rattle.plain_sql.specs.Plans.{meaning}
use Rattle.session_txn.specs.Deleting.{chosen_keys}
use Rattle.session_txn.proofs.deleting.chosen_keys.Given as goal

abbrev pub invariant-loop-entry : goal.invariant-loop-entry
invariant-loop-entry l =
    chosen_keys (map meaning l.tests) l.entries ≡ and_then (chosen_keys (map meaning l.tests) (drop l.entry-index l.entries)) (λ more. Ok (l.keys ++ more))
