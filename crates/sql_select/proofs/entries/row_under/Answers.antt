use Rattle.std.proofs.Common.{◌∙◌, map}
use Rattle.chunk_store.specs.Drafts.{chunks_of}
use Rattle.schema_model.specs.PlainTables.{row_item}
use Rattle.sql_select.proofs.RowLemmas.{body_is, row_read, some_is}
use Rattle.sql_select.proofs.TableLemmas.{has_rows}
use Rattle.sql_select.proofs.entries.row_under.Goals as goal

pub get-requires-clause-tree : goal.get-requires-clause-tree
get-requires-clause-tree g c = λ κs within.
    let contents = c.requires.0 in
    let has = has_rows g.D.Digester.address (chunks_of c.args.draft.now.chunks) c.args.table.now contents c.requires.2 in
    (map (row_item c.args.table.now.schema) contents.rows, has.tree)

pub row_of-requires-clause-schema : goal.row_of-requires-clause-schema
row_of-requires-clause-schema g c =
    let has = has_rows g.D.Digester.address (chunks_of c.args.draft.now.chunks) c.args.table.now c.requires.0 c.requires.2 in
    has.valid

pub row_of-requires-clause-row : goal.row_of-requires-clause-row
row_of-requires-clause-row g c =
    let schema = c.args.table.now.schema in
    let contents = c.requires.0 in
    let has = has_rows g.D.Digester.address (chunks_of c.args.draft.now.chunks) c.args.table.now contents c.requires.2 in
    let body = body_is c.keys_keep_order.ensures.whole schema contents.rows c.args.bytes.now c.requires.1 has.valid has.fit c.requires.3 in
    (c.requires.1, row_read schema contents.rows c.args.bytes.now c.in-Some.value.now c.requires.1 c.requires.3 (c.in-Some.ensures (map (row_item schema) contents.rows) has.tree ∙ body))

pub unreachable-requires : goal.unreachable-requires
unreachable-requires g c =
    let schema = c.args.table.now.schema in
    let contents = c.requires.0 in
    let has = has_rows g.D.Digester.address (chunks_of c.args.draft.now.chunks) c.args.table.now contents c.requires.2 in
    let body = body_is c.keys_keep_order.ensures.whole schema contents.rows c.args.bytes.now c.requires.1 has.valid has.fit c.requires.3 in
    some_is (c.in-None.ensures (map (row_item schema) contents.rows) has.tree ∙ body)

pub returns : goal.returns
returns g c = λ contents row of under.
    let schema = c.args.table.now.schema in
    let has = has_rows g.D.Digester.address (chunks_of c.args.draft.now.chunks) c.args.table.now contents of in
    let body = body_is c.keys_keep_order.ensures.whole schema contents.rows c.args.bytes.now row has.valid has.fit under in
    c.row_of.ensures row (row_read schema contents.rows c.args.bytes.now c.in-Some.value.now row under (c.in-Some.ensures (map (row_item schema) contents.rows) has.tree ∙ body))
