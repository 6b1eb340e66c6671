use Rattle.chunk_store.specs.Drafts.{chunks_of}
use Rattle.sql_write.proofs.AlteringLemmas.{rows_at}
use Rattle.sql_write.proofs.altering.changed.Goals as goal

pub read_rows-requires-clause-tree : goal.read_rows-requires-clause-tree
read_rows-requires-clause-tree g c κs within =
    (c.requires.table.0.rows, rows_at g.D.Digester.address (chunks_of c.args.draft.now.chunks) c.args.table.now c.requires.table.0 c.requires.table.1)
