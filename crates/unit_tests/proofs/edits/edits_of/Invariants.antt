use Rattle.unit_tests.specs.Samples.{AreEditsBelow}
use Rattle.unit_tests.proofs.edits.edits_of.Given as goal

abbrev pub invariant-loop-number : goal.invariant-loop-number
invariant-loop-number l = AreEditsBelow l.number l.edits.items
