use Rattle.unit_tests.proofs.edits.edits_of.Goals as goal

pub returns : goal.returns
returns c = c.loop-number.invariant.are
