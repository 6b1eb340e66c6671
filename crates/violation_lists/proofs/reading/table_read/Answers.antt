use Rattle.std.proofs.Common.{◌∙◌, ap, []}
use Rattle.chunk_store.specs.Drafts.{chunks_of}
use Rattle.plain_writes.specs.Seen.{table_seen}
use Rattle.table_root.specs.declared.records.StoredTable.{StoredTable}
use Rattle.violation_lists.proofs.StandLemmas.{rows_there, table_found, table_same}
use Rattle.violation_lists.proofs.reading.table_read.Goals as goal

pub read_table-requires-after_bounds : goal.read_table-requires-after_bounds
read_table-requires-after_bounds g c κs within =
    table_found g.D.Digester.address (chunks_of c.args.draft.now.chunks) c.args.address.now.0 c.law_of_tables.ensures.tables c.requires.0 c.requires.1

pub read_rows-requires-clause-tree : goal.read_rows-requires-clause-tree
read_rows-requires-clause-tree g c κs within =
    let contents = c.requires.0 in
    (contents.rows, rows_there g.D.Digester.address (chunks_of c.args.draft.now.chunks) c.args.address.now.0 c.law_of_tables.ensures.tables contents c.requires.1 c.in_ok-table.table c.in_ok-table.ensures)

pub returns : goal.returns
returns g c = λ contents at.
    let address = g.D.Digester.address in
    let chunks = chunks_of c.args.draft.now.chunks in
    let stand = c.law_of_tables.ensures.tables in
    let schema = ap (λ (t : StoredTable). t.schema) (table_same address chunks c.args.address.now.0 stand contents at c.in_ok-table.table c.in_ok-table.ensures) in
    let rows = c.in_ok-rows.ensures contents.rows (rows_there address chunks c.args.address.now.0 stand contents at c.in_ok-table.table c.in_ok-table.ensures) in
    ap table_seen c.bare_table.ensures ∙ (λ i. record { schema = schema i; rows = rows i; conflicts = []; violations = [] })
