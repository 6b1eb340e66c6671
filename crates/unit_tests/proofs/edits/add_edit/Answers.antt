use Rattle.std.proofs.Common.{arith}
use Rattle.unit_tests.proofs.SampleEdits.{edit_below}
use Rattle.unit_tests.proofs.edits.add_edit.Goals as goal

pub returns : goal.returns
returns c = edit_below _ _ _ c.args.number c.in_ok-push.ensures.items c.in_ok-key.ensures c.in_ok-value.ensures (omega (arith, c.requires.few)) c.requires.are
