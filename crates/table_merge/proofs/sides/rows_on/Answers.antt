use Rattle.std.proofs.Common.{◌≡◌, ◌∙◌, List, IfOk, subst}
use Rattle.chunk_store.specs.Drafts.{chunks_of}
use Rattle.table_merge.specs.declared.keyed.KeyedRow.{KeyedRow}
use Rattle.table_merge.proofs.SideLemmas.{side_is_schema, side_keyed, side_rows}
use Rattle.table_merge.proofs.sides.rows_on.Goals as goal

pub read_rows-requires-clause-schema : goal.read_rows-requires-clause-schema
read_rows-requires-clause-schema g c κs within = side_is_schema g.D.Digester.address (chunks_of c.args.draft.now.chunks) c.args.table.now c.requires.0 c.requires.1

pub read_rows-requires-clause-tree : goal.read_rows-requires-clause-tree
read_rows-requires-clause-tree g c κs within = (c.requires.0.rows, side_rows g.D.Digester.address (chunks_of c.args.draft.now.chunks) c.args.table.now c.requires.0 c.requires.1)

pub returns : goal.returns
returns g c = λ contents side.
    let address = g.D.Digester.address in
    let chunks = chunks_of c.args.draft.now.chunks in
    let read = side_keyed address chunks c.args.table.now contents c.args.schema.now c.as_slice.result.now side
    (c.as_slice.ensures ∙ c.in_ok-rows.ensures contents.rows (side_rows address chunks c.args.table.now contents side)) in
    subst (λ (l : List KeyedRow). IfOk c.keyed_rows.result (λ rows. rows.items ≡ l)) read c.keyed_rows.ensures
