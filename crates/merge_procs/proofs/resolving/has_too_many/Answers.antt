use Rattle.schema_model.specs.PlainTables.{row_items}
use Rattle.chunk_store.specs.Drafts.{chunks_of}
use Rattle.table_root.specs.Standing.{table_of_lists}
use Rattle.sql_write.proofs.PlaceLemmas.{rows_tree}
use Rattle.merge_procs.proofs.JudgeLemmas.{count_rows}
use Rattle.merge_procs.proofs.resolving.has_too_many.Goals as goal

pub read_table-requires-after_bounds : goal.read_table-requires-after_bounds
read_table-requires-after_bounds g c κs within =
    let address = g.D.Digester.address in
    (table_of_lists address c.requires.0, c.laws_of_growth.ensures.tables.found address (chunks_of c.args.draft.now.chunks) c.args.address.now.0 c.requires.0 c.requires.1)

pub count-rows-requires-clause-tree : goal.count-rows-requires-clause-tree
count-rows-requires-clause-tree g c κs within =
    let address = g.D.Digester.address in
    let chunks = chunks_of c.args.draft.now.chunks in
    let contents = c.requires.0 in
    let stands = c.laws_of_growth.ensures.values.read address chunks c.args.address.now.0 contents c.in_ok-table.table c.requires.1 c.in_ok-table.ensures in
    (row_items contents, rows_tree address chunks c.in_ok-table.table contents stands)

pub returns : goal.returns
returns g c = λ contents at.
    let address = g.D.Digester.address in
    let chunks = chunks_of c.args.draft.now.chunks in
    let stands = c.laws_of_growth.ensures.values.read address chunks c.args.address.now.0 contents c.in_ok-table.table at c.in_ok-table.ensures in
    count_rows contents c.count-rows.result (c.count-rows.ensures (row_items contents) (rows_tree address chunks c.in_ok-table.table contents stands))
