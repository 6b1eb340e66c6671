use Rattle.std.specs.Option.{option_copied}
use Rattle.chunk_store.specs.Drafts.{chunks_of}
use Rattle.table_merge.specs.Steps.{wanted_schema}
use Rattle.table_merge.proofs.FaultLemmas.{schema_fault, schema_reason}
use Rattle.table_merge.proofs.SideLemmas.{side_within}
use Rattle.table_merge.proofs.skipping.merge_kept_table.Goals as goal

pub merged_schema-requires-clause-ours : goal.merged_schema-requires-clause-ours
merged_schema-requires-clause-ours g c =
    let contents = c.requires.sides.0 in
    let are = c.requires.sides.1 in
    let sides = are.sides in
    side_within g.D.Digester.address (chunks_of c.args.draft.now.chunks) c.args.ours.now contents.ours sides.our_side

pub merged_schema-requires-clause-theirs : goal.merged_schema-requires-clause-theirs
merged_schema-requires-clause-theirs g c =
    let contents = c.requires.sides.0 in
    let are = c.requires.sides.1 in
    let sides = are.sides in
    side_within g.D.Digester.address (chunks_of c.args.draft.now.chunks) c.args.theirs.now contents.theirs sides.their_side

pub merge_kept_on-requires-after_bounds : goal.merge_kept_on-requires-after_bounds
merge_kept_on-requires-after_bounds g c κs within = (c.requires.sides.0, c.requires.sides.1, c.in-Ok.ensures)

pub returns-in-Err-clause-fault : goal.returns-in-Err-clause-fault
returns-in-Err-clause-fault g c = λ contents are.
    schema_fault g.D.Digester.address (chunks_of c.args.draft.now.chunks) (option_copied c.args.base) c.args.ours.now c.args.theirs.now contents are.sides c.in-Err.fault c.in-Err.ensures

pub returns-in-Err-clause-cause : goal.returns-in-Err-clause-cause
returns-in-Err-clause-cause g c =
    schema_reason g.D.Digester.address (chunks_of c.args.draft.now.chunks) (wanted_schema (option_copied c.args.base) c.args.ours.now c.args.theirs.now) c.in-Err.fault c.in-Err.ensures
