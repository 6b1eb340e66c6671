use Rattle.std.proofs.Common.{subst, sym}
use Rattle.unit_tests.specs.Samples.{AreFewEdits}
use Rattle.unit_tests.proofs.SampleEdits.{few_can_edit}
use Rattle.unit_tests.proofs.edits.agrees.Goals as goal

pub apply-requires-after_bounds : goal.apply-requires-after_bounds
apply-requires-after_bounds c κs =
    (c.in_ok-root.ensures.0, few_can_edit _ _ _ c.in_ok-root.ensures (subst AreFewEdits (sym c.deref.ensures.value) c.in_ok-edits.ensures))
