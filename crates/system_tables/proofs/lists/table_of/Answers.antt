use Rattle.chunk_store.specs.Drafts.{chunks_of}
use Rattle.system_tables.proofs.TableLemmas.{found_at, read_at}
use Rattle.system_tables.proofs.lists.table_of.Goals as goal

pub read_table-requires-after_bounds : goal.read_table-requires-after_bounds
read_table-requires-after_bounds g c κs within = found_at g.D.Digester.address (chunks_of c.args.draft.now.chunks) c.args.address.now.0 c.law_of_tables.ensures.tables c.requires

pub returns : goal.returns
returns g c = λ contents at.
    read_at g.D.Digester.address (chunks_of c.args.draft.now.chunks) c.args.address.now.0 c.law_of_tables.ensures.values contents at c.in_ok-table.table c.in_ok-table.ensures
