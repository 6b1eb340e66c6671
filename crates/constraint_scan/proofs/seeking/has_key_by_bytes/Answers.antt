use Rattle.std.proofs.Common.{◌∙◌, ap, sym}
use Rattle.std.specs.List.{list_any}
use Rattle.chunk_store.specs.Drafts.{chunks_of}
use Rattle.tuple_codec.specs.Nodes.{Item}
use Rattle.tuple_codec.specs.Rows.{Cells, key_of, same_cells}
use Rattle.schema_model.specs.PlainTables.{index_items, row_items}
use Rattle.violation_lists.specs.Seeking.{begins}
use Rattle.constraint_scan.proofs.FoundLemmas.{so_found}
use Rattle.violation_lists.proofs.TreeLemmas.{in_index, in_rows, indexed_for, root_told, rows_tree}
use Rattle.constraint_scan.proofs.seeking.has_key_by_bytes.Goals as goal

pub returns-then-starts : goal.returns-then-starts
returns-then-starts g c = λ contents at.
    let address = g.D.Digester.address in
    let chunks = chunks_of c.args.draft.now.chunks in
    let table = c.args.table.now in
    let places = c.args.places.now in
    let key = c.args.key.now in
    let bytes = c.args.bytes.now in
    so_found c.begins_any.result (list_any (λ (item : Item). begins bytes item.key) (row_items contents)) (list_any (λ (row : Cells). same_cells key (key_of places row)) contents.rows)
    (in_rows address chunks table contents at places key bytes c.requires.bytes (ap (begins places) (sym c.as_slice.ensures) ∙ sym c.starts.ensures ∙ c.if-starts.true))
    (c.begins_any.ensures (row_items contents) (rows_tree address chunks table contents at))

pub begins_any-requires-in-Some-after_bounds : goal.begins_any-requires-in-Some-after_bounds
begins_any-requires-in-Some-after_bounds g c κs within =
    let contents = c.requires.table.0 in
    let table = c.args.table.now in
    let found = root_told c.args.places.now table.schema.indexes c.as_slice-2.result.now table.indexes c.as_slice-3.result.now c.in-Some.root.now c.as_slice-2.ensures c.as_slice-3.ensures c.in-Some.ensures in
    let indexed = indexed_for g.D.Digester.address (chunks_of c.args.draft.now.chunks) c.args.table.now contents c.requires.table.1 c.args.places.now c.in-Some.root.now found in
    (index_items contents indexed.index, indexed.tree)

pub returns-in-Some : goal.returns-in-Some
returns-in-Some g c = λ contents at.
    let address = g.D.Digester.address in
    let chunks = chunks_of c.args.draft.now.chunks in
    let table = c.args.table.now in
    let places = c.args.places.now in
    let key = c.args.key.now in
    let bytes = c.args.bytes.now in
    let found = root_told places table.schema.indexes c.as_slice-2.result.now table.indexes c.as_slice-3.result.now c.in-Some.root.now c.as_slice-2.ensures c.as_slice-3.ensures c.in-Some.ensures in
    let indexed = indexed_for address chunks table contents at places c.in-Some.root.now found in
    so_found c.begins_any-in-Some.result (list_any (λ (item : Item). begins bytes item.key) (index_items contents indexed.index))
    (list_any (λ (row : Cells). same_cells key (key_of places row)) contents.rows)
    (in_index address chunks table contents at places key bytes c.requires.bytes indexed.index indexed.first)
    (c.begins_any-in-Some.ensures (index_items contents indexed.index) indexed.tree)
