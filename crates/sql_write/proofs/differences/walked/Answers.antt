use Rattle.std.proofs.Common.{arith, ◌∙◌, ap, sym, ◌++◌}
use Rattle.sql_write.proofs.DifferenceLemmas.{all_of_rest, left_step}
use Rattle.sql_write.specs.declared.differences.Meeting.TheVariants as meet
use Rattle.sql_write.proofs.differences.walked.Goals as goal

pub rows-preserved-in-Same : goal.rows-preserved-in-Same
rows-preserved-in-Same c = record { row_within = omega arith; other_within = omega arith; left = ap (λ x. c.rows.edits.items ++ x) (sym (left_step c.args.schema.now c.args.old.now c.args.new.now c.rows.row_at c.rows.other_at c.index-old-row_at.result c.index-new-other_at.result meet.Same c.rows-test.true c.if-other_at-new.true c.index-old-row_at.is c.index-new-other_at.is (sym c.in-Same.is ∙ c.in_ok-meet.ensures))) ∙ c.rows.invariant.left }

pub remove_all-requires-clause-rows : goal.remove_all-requires-clause-rows
remove_all-requires-clause-rows c = all_of_rest _ c.args.old.now c.rows.row_at c.requires.old

pub put_all-requires-clause-rows : goal.put_all-requires-clause-rows
put_all-requires-clause-rows c = all_of_rest _ c.args.new.now c.rows.other_at c.requires.new
