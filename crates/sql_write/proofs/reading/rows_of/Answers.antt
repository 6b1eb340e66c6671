use Rattle.chunk_store.specs.Drafts.{chunks_of}
use Rattle.sql_write.proofs.TurnLemmas.{rows_at, valid_schema}
use Rattle.sql_write.proofs.reading.rows_of.Goals as goal

pub read_rows-requires-clause-schema : goal.read_rows-requires-clause-schema
read_rows-requires-clause-schema g c κs within = valid_schema g.D.Digester.address (chunks_of c.args.draft.now.chunks) c.args.found.now.table c.requires.0 c.requires.1

pub read_rows-requires-clause-tree : goal.read_rows-requires-clause-tree
read_rows-requires-clause-tree g c κs within = (c.requires.0.rows, rows_at g.D.Digester.address (chunks_of c.args.draft.now.chunks) c.args.found.now.table c.requires.0 c.requires.1)

pub returns : goal.returns
returns g c = λ contents of. c.read_rows.ensures contents.rows (rows_at g.D.Digester.address (chunks_of c.args.draft.now.chunks) c.args.found.now.table contents of)
