use Rattle.chunk_store.specs.Drafts.{chunks_of}
use Rattle.violation_lists.proofs.StandLemmas.{table_found, table_of}
use Rattle.violation_lists.proofs.quiet.is_quiet_at.Goals as goal

pub read_table-requires-after_bounds : goal.read_table-requires-after_bounds
read_table-requires-after_bounds g c κs within =
    table_found g.D.Digester.address (chunks_of c.args.draft.now.chunks) c.args.address.now.0 c.law_of_tables.ensures.tables c.requires.0 c.requires.1

pub is_quiet-requires-after_bounds : goal.is_quiet-requires-after_bounds
is_quiet-requires-after_bounds g c κs within =
    let contents = c.requires.0 in
    (contents, table_of g.D.Digester.address (chunks_of c.args.draft.now.chunks) c.args.address.now.0 c.law_of_tables.ensures.tables contents c.requires.1 c.in_ok-table.table c.in_ok-table.ensures)

pub returns : goal.returns
returns g c = λ contents at.
    c.is_quiet.ensures contents
    (table_of g.D.Digester.address (chunks_of c.args.draft.now.chunks) c.args.address.now.0 c.law_of_tables.ensures.tables contents at c.in_ok-table.table c.in_ok-table.ensures)
