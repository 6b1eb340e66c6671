use Rattle.merge_procs.specs.Resolving.{theirs_of}
use Rattle.merge_procs.proofs.TakingLemmas.{one_more, one_of}
use Rattle.merge_procs.proofs.takings.taken_rows.Goals as goal

pub push_taken-requires-clause-edit : goal.push_taken-requires-clause-edit
push_taken-requires-clause-edit c =
    let one = one_of c.args.schema.now c.args.edits.now c.requires.edits.0 c.loop-edit.edit-index c.edit-item.result c.requires.edits.1 c.loop-edit-test.true c.edit-item.is in
    (one.conflict, one.taking)

pub loop-edit-preserved : goal.loop-edit-preserved
loop-edit-preserved c = λ conflicts are.
    let one = one_of c.args.schema.now c.args.edits.now conflicts c.loop-edit.edit-index c.edit-item.result are c.loop-edit-test.true c.edit-item.is in
    one_more c.args.schema.now c.edit-item.result conflicts c.loop-edit.edit-index c.loop-edit.rows c.push_taken.new.rows (theirs_of conflicts) one
    (c.in_ok-push_taken.ensures one.conflict one.taking) (c.loop-edit.invariant conflicts are)
