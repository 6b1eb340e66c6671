use Rattle.std.proofs.Common.{List, subst, sym}
use Rattle.chunk_store.specs.Drafts.{chunks_of}
use Rattle.table_root.specs.Standing.{AreThere}
use Rattle.table_root.specs.declared.records.TableEntry.{TableEntry}
use Rattle.program_run.proofs.CountLemmas.{database_there, tables_there}
use Rattle.program_run.proofs.counting.rows_at.Goals as goal

pub read_database-requires-after_bounds : goal.read_database-requires-after_bounds
read_database-requires-after_bounds g c κs within =
    database_there g.D.Digester.address (chunks_of c.args.draft.now.chunks) c.args.database.now.0 c.law_of_databases.ensures c.requires.0 c.requires.1

pub rows_among-requires-after_bounds : goal.rows_among-requires-after_bounds
rows_among-requires-after_bounds g c κs within = (
  c.requires.0,
  subst (λ (tables : List TableEntry). AreThere g.D.Digester.address (chunks_of c.args.draft.now.chunks) c.requires.0 tables) (sym c.as_slice.ensures.value)
      (tables_there g.D.Digester.address (chunks_of c.args.draft.now.chunks) c.args.database.now.0 c.law_of_databases.ensures c.requires.0 c.requires.1 c.in_ok-tables.tables.items c.in_ok-tables.ensures),
)

pub returns : goal.returns
returns g c = λ contents kept.
    c.rows_among.ensures contents (subst (λ (tables : List TableEntry). AreThere g.D.Digester.address (chunks_of c.args.draft.now.chunks) contents tables) (sym c.as_slice.ensures.value)
    (tables_there g.D.Digester.address (chunks_of c.args.draft.now.chunks) c.args.database.now.0 c.law_of_databases.ensures contents kept c.in_ok-tables.tables.items c.in_ok-tables.ensures))
