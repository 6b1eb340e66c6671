use Rattle.chunk_store.specs.Drafts.{chunks_of}
use Rattle.schema_model.specs.PlainTables.{row_items}
use Rattle.root_merge.proofs.KeepingLemmas.{merged_rows, our_rows}
use Rattle.root_merge.proofs.changing.changes_between.Goals as goal

pub changes-requires-clause-old_tree : goal.changes-requires-clause-old_tree
changes-requires-clause-old_tree g c κs within =
    (row_items c.requires.0, our_rows g.D.Digester.address (chunks_of c.args.draft.now.chunks) c.args.ours.now c.args.merged.now c.requires.0 c.requires.1 c.requires.2)

pub changes-requires-clause-new_tree : goal.changes-requires-clause-new_tree
changes-requires-clause-new_tree g c κs within =
    (row_items c.requires.1, merged_rows g.D.Digester.address (chunks_of c.args.draft.now.chunks) c.args.ours.now c.args.merged.now c.requires.0 c.requires.1 c.requires.2)

pub returns : goal.returns
returns g c = λ before contents can.
    let address = g.D.Digester.address in
    let chunks = chunks_of c.args.draft.now.chunks in
    let ours = c.args.ours.now in
    let merged = c.args.merged.now in
    c.changes.ensures.changes (row_items before) (row_items contents) (our_rows address chunks ours merged before contents can) (merged_rows address chunks ours merged before contents can)
