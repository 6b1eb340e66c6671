use Rattle.std.proofs.Common.{map}
use Rattle.node_format.specs.Views.{leaf_of}
use Rattle.unit_tests.specs.Samples.{AreBelow}
use Rattle.unit_tests.proofs.samples.rows_of.Given as goal

abbrev pub invariant-loop-number : goal.invariant-loop-number
invariant-loop-number g l = AreBelow l.fn.kind l.number (map leaf_of l.rows.items)
