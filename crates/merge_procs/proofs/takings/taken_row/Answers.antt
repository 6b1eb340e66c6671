use Rattle.merge_procs.proofs.TakingLemmas.{row_shown, row_taken, taken_of}
use Rattle.merge_procs.proofs.takings.taken_row.Goals as goal

pub row_of-requires-clause-row : goal.row_of-requires-clause-row
row_of-requires-clause-row c =
    let taken = taken_of c.args.schema.now c.args.edit.now c.in-Some.value c.requires.edit.0 c.requires.edit.1 c.in-Some.is in
    (taken.row, row_shown c.args.schema.now c.args.edit.now.key c.in-Some.value c.as_slice.result.now c.as_slice-in-Some.result.now taken.row taken.of c.as_slice.ensures c.as_slice-in-Some.ensures)

pub returns-in_ok-row_of-in-Some : goal.returns-in_ok-row_of-in-Some
returns-in_ok-row_of-in-Some c = λ conflict taking.
    let taken = taken_of c.args.schema.now c.args.edit.now c.in-Some.value conflict taking c.in-Some.is in
    row_taken c.args.schema.now c.args.edit.now.key c.in-Some.value conflict c.in_ok-row_of-in-Some.field-0 taken
    (c.in_ok-row_of-in-Some.ensures taken.row
    (row_shown c.args.schema.now c.args.edit.now.key c.in-Some.value c.as_slice.result.now c.as_slice-in-Some.result.now taken.row taken.of c.as_slice.ensures c.as_slice-in-Some.ensures))
