use Rattle.chunk_store.specs.Drafts.{chunks_of}
use Rattle.root_merge.proofs.TableLemmas.{rows_at}
use Rattle.root_merge.proofs.tables.rows_are_short.Goals as goal

pub read_rows-requires-clause-tree : goal.read_rows-requires-clause-tree
read_rows-requires-clause-tree g c κs within =
    (c.requires.0.rows, rows_at g.D.Digester.address (chunks_of c.args.draft.now.chunks) c.args.table.now c.requires.0 c.requires.1)
