use Rattle.chunk_store.specs.Drafts.{chunks_of}
use Rattle.sql_write.proofs.RowsLemmas.{alone, are_rows, may_insert, may_insert_one}
use Rattle.sql_write.proofs.inserting.insert_rows.Goals as goal

pub insert_sorted-requires-after_bounds : goal.insert_sorted-requires-after_bounds
insert_sorted-requires-after_bounds g c κs within =
    let address = g.D.Digester.address in
    let chunks = chunks_of c.args.draft.now.chunks in
    let one = alone c.args.rows.now c.row-item.result c.in-len1.len_at_least c.in-len1.len_below c.row-item.is in (
      c.requires.0,
      c.requires.1,
      c.args.rows.now,
      may_insert_one address chunks c.args.database.now.0 c.args.name.now c.args.found c.requires.0 c.requires.1 c.args.rows.now c.requires.2 c.in_ok-edit-in-len1.edit c.row-item.result one c.in_ok-edit-in-len1.ensures,
    )

pub edits_of-requires-clause-rows : goal.edits_of-requires-clause-rows
edits_of-requires-clause-rows g c =
    are_rows g.D.Digester.address (chunks_of c.args.draft.now.chunks) c.args.database.now.0 c.args.name.now c.args.found c.requires.0 c.requires.1 c.args.rows.now c.requires.2

pub insert_edits-requires-after_bounds : goal.insert_edits-requires-after_bounds
insert_edits-requires-after_bounds g c κs within = (
  c.requires.0,
  c.requires.1,
  c.args.rows.now,
  may_insert g.D.Digester.address (chunks_of c.args.draft.now.chunks) c.args.database.now.0 c.args.name.now c.args.found c.requires.0 c.requires.1 c.args.rows.now c.requires.2 c.in_ok-edits-in_default.edits.items c.in_ok-edits-in_default.ensures,
)

pub returns-in_ok-edit-in-len1-clause-done : goal.returns-in_ok-edit-in-len1-clause-done
returns-in_ok-edit-in-len1-clause-done g c = λ before contents put.
    let address = g.D.Digester.address in
    let chunks = chunks_of c.args.draft.now.chunks in
    let one = alone c.args.rows.now c.row-item.result c.in-len1.len_at_least c.in-len1.len_below c.row-item.is in
    c.insert_sorted.ensures.done before contents c.args.rows.now
    (may_insert_one address chunks c.args.database.now.0 c.args.name.now c.args.found before contents c.args.rows.now put c.in_ok-edit-in-len1.edit c.row-item.result one c.in_ok-edit-in-len1.ensures)

pub returns-in_ok-edits-in_default-clause-done : goal.returns-in_ok-edits-in_default-clause-done
returns-in_ok-edits-in_default-clause-done g c = λ before contents put.
    c.insert_edits.ensures.done before contents c.args.rows.now
    (may_insert g.D.Digester.address (chunks_of c.args.draft.now.chunks) c.args.database.now.0 c.args.name.now c.args.found before contents c.args.rows.now put c.in_ok-edits-in_default.edits.items c.in_ok-edits-in_default.ensures)
