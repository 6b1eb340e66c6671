use Rattle.std.proofs.Common.{◌≡◌, true, sym, subst}
use Rattle.chunk_store.specs.Drafts.{chunks_of}
use Rattle.schema_model.specs.Schemas.{is_schema}
use Rattle.schema_model.specs.declared.schemas.Schema.{Schema}
use Rattle.violation_lists.proofs.TreeLemmas.{rows_at, schema_same}
use Rattle.constraint_scan.proofs.seeking.rows_of.Goals as goal

pub read_rows-requires-clause-schema : goal.read_rows-requires-clause-schema
read_rows-requires-clause-schema g c κs within =
    let same = schema_same g.D.Digester.address (chunks_of c.args.draft.now.chunks) c.args.table.now c.requires.0 c.requires.1 in
    subst (λ (s : Schema). is_schema s ≡ true) (sym same) c.requires.1.is_table.schema

pub read_rows-requires-clause-tree : goal.read_rows-requires-clause-tree
read_rows-requires-clause-tree g c κs within =
    (c.requires.0.rows, rows_at g.D.Digester.address (chunks_of c.args.draft.now.chunks) c.args.table.now c.requires.0 c.requires.1)

pub returns : goal.returns
returns g c = λ contents at. c.read_rows.ensures contents.rows (rows_at g.D.Digester.address (chunks_of c.args.draft.now.chunks) c.args.table.now contents at)
