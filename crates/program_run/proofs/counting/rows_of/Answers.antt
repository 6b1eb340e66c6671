use Rattle.chunk_store.specs.Drafts.{chunks_of}
use Rattle.schema_model.specs.PlainTables.{row_items}
use Rattle.violation_lists.proofs.StandLemmas.{table_found}
use Rattle.program_run.proofs.CountLemmas.{rows_counted, rows_tree}
use Rattle.program_run.proofs.counting.rows_of.Goals as goal

pub read_table-requires-after_bounds : goal.read_table-requires-after_bounds
read_table-requires-after_bounds g c κs within =
    table_found g.D.Digester.address (chunks_of c.args.draft.now.chunks) c.args.address.now.0 c.law_of_tables.ensures.tables c.requires.0 c.requires.1

pub count-requires-clause-tree : goal.count-requires-clause-tree
count-requires-clause-tree g c κs within =
    let contents = c.requires.0 in (
      row_items contents,
      rows_tree g.D.Digester.address (chunks_of c.args.draft.now.chunks) c.args.address.now.0 c.law_of_tables.ensures.tables contents c.requires.1 c.in_ok-table.table c.in_ok-table.ensures,
    )

pub returns : goal.returns
returns g c = λ contents at.
    rows_counted contents c.count.result (c.count.ensures (row_items contents)
    (rows_tree g.D.Digester.address (chunks_of c.args.draft.now.chunks) c.args.address.now.0 c.law_of_tables.ensures.tables contents at c.in_ok-table.table c.in_ok-table.ensures))
