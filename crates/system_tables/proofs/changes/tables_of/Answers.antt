use Rattle.chunk_store.specs.Drafts.{chunks_of}
use Rattle.system_tables.proofs.ChangeLemmas.{kept_found, kept_same}
use Rattle.system_tables.proofs.changes.tables_of.Goals as goal

pub read_database-requires-after_bounds : goal.read_database-requires-after_bounds
read_database-requires-after_bounds g c κs within =
    kept_found g.D.Digester.address (chunks_of c.args.draft.now.chunks) c.law_of_databases.ensures c.args.database.now.0 c.requires.0 c.requires.1

pub returns : goal.returns
returns g c = λ contents kept.
    kept_same g.D.Digester.address (chunks_of c.args.draft.now.chunks) c.law_of_databases.ensures c.args.database.now.0 contents kept c.in_ok-tables.tables.items c.in_ok-tables.ensures
