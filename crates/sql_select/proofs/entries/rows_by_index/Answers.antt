use Rattle.std.proofs.Common.{List, [], ◌∷◌, ◌++◌, map, sym, ap, ◌∙◌, subst}
use Rattle.chunk_store.specs.Drafts.{chunks_of}
use Rattle.prolly_tree.specs.Lists.{from_key, pair_of}
use Rattle.prolly_tree.specs.Walks.{scan_rest}
use Rattle.schema_model.specs.PlainTables.{index_item, sorted}
use Rattle.tuple_codec.specs.Rows.{Cells}
use Rattle.sql_select.specs.Entries.{behind}
use Rattle.sql_select.proofs.EntryLemmas.{IsEntering, all_entered, entered, enters, left_out}
use Rattle.sql_select.proofs.TableLemmas.{has_rows, index_tree}
use Rattle.sql_select.proofs.entries.rows_by_index.Goals as goal

pub index_bytes-requires-clause-schema : goal.index_bytes-requires-clause-schema
index_bytes-requires-clause-schema g c =
    let at = c.requires.index.1 in
    let has = has_rows g.D.Digester.address (chunks_of c.args.draft.now.chunks) c.args.table.now c.requires.index.0 at.stands in
    has.valid

pub scan_from-requires-clause-tree : goal.scan_from-requires-clause-tree
scan_from-requires-clause-tree g c = λ κs within.
    let contents = c.requires.index.0 in (
      sorted (map (index_item c.args.table.now.schema c.args.index.now) contents.rows),
      index_tree g.D.Digester.address (chunks_of c.args.draft.now.chunks) c.args.table.now c.args.index.now c.args.root.now.0 contents c.requires.index.1,
    )

pub entries-init : goal.entries-init
entries-init g c = λ contents at.
    let address = g.D.Digester.address in
    let chunks = chunks_of c.args.draft.now.chunks in
    let schema = c.args.table.now.schema in
    let index = c.args.index.now in
    let cells = c.args.cells.now in
    let has = has_rows address chunks c.args.table.now contents at.stands in
    let tree = index_tree address chunks c.args.table.now index c.args.root.now.0 contents at in
    let items = sorted (map (index_item schema index) contents.rows) in
    subst (λ (l : List Cells). IsEntering schema index cells contents.rows l (scan_rest c.in_ok-scan.scan)) (sym c.new-rows.ensures)
    (enters c.keys_keep_order.ensures.whole c.keys_keep_order.ensures.before schema index cells has.valid c.requires.places c.requires.fits contents.rows (scan_rest c.in_ok-scan.scan) has.fit has.rise tree.are_rows.rise
    (c.in_ok-scan.ensures items tree ∙ ap (λ bytes. map pair_of (from_key bytes items)) (c.as_slice.ensures ∙ c.in_ok-prefix.ensures)))

pub row_under-requires-after_bounds : goal.row_under-requires-after_bounds
row_under-requires-after_bounds g c = λ κs within.
    let contents = c.requires.index.0 in
    let at = c.requires.index.1 in
    let schema = c.args.table.now.schema in
    let index = c.args.index.now in
    let cells = c.args.cells.now in
    let has = has_rows g.D.Digester.address (chunks_of c.args.draft.now.chunks) c.args.table.now contents at.stands in
    let own_is = c.in-Some-behind.ensures ∙ ap (λ p. behind p c.in-Some.key.now) (c.as_slice-in-Some.ensures ∙ c.in_ok-prefix.ensures) in
    let f = entered c.keys_keep_order.ensures.whole c.keys_keep_order.ensures.before schema index cells has.valid c.requires.places c.requires.fits contents.rows c.entries.rows (scan_rest c.entries.scan) (scan_rest c.next.new.self)
    (c.in-Some.key.now, c.in-Some.field-0-1.now) (c.entries.invariant contents at) c.in-Some.ensures.gives c.in-Some-behind.own.now own_is in
    (contents, f.row, at.stands, f.under)

pub entries-preserved : goal.entries-preserved
entries-preserved g c = λ contents at.
    let schema = c.args.table.now.schema in
    let index = c.args.index.now in
    let cells = c.args.cells.now in
    let has = has_rows g.D.Digester.address (chunks_of c.args.draft.now.chunks) c.args.table.now contents at.stands in
    let own_is = c.in-Some-behind.ensures ∙ ap (λ p. behind p c.in-Some.key.now) (c.as_slice-in-Some.ensures ∙ c.in_ok-prefix.ensures) in
    let f = entered c.keys_keep_order.ensures.whole c.keys_keep_order.ensures.before schema index cells has.valid c.requires.places c.requires.fits contents.rows c.entries.rows (scan_rest c.entries.scan) (scan_rest c.next.new.self)
    (c.in-Some.key.now, c.in-Some.field-0-1.now) (c.entries.invariant contents at) c.in-Some.ensures.gives c.in-Some-behind.own.now own_is in
    let read = c.in_ok-row_under-in-Some-behind.ensures contents f.row at.stands f.under in
    subst (λ (l : List Cells). IsEntering schema index cells contents.rows l (scan_rest c.next.new.self)) (ap (λ (row : Cells). c.entries.rows ++ row ∷ []) (sym read) ∙ sym c.in_ok-push-in-Some-behind.ensures.ok) f.entering

pub returns-in-None : goal.returns-in-None
returns-in-None g c = λ contents at.
    let schema = c.args.table.now.schema in
    let index = c.args.index.now in
    let cells = c.args.cells.now in
    let has = has_rows g.D.Digester.address (chunks_of c.args.draft.now.chunks) c.args.table.now contents at.stands in
    let out = c.in-None.ensures ∙ ap (λ p. behind p c.in-Some.key.now) (c.as_slice-in-Some.ensures ∙ c.in_ok-prefix.ensures) in
    left_out c.keys_keep_order.ensures.whole c.keys_keep_order.ensures.before schema index cells has.valid c.requires.places c.requires.fits contents.rows c.entries.rows (scan_rest c.entries.scan) (scan_rest c.next.new.self)
    (c.in-Some.key.now, c.in-Some.field-0-1.now) (c.entries.invariant contents at) c.in-Some.ensures.gives out

pub returns : goal.returns
returns g c = λ contents at.
    let has = has_rows g.D.Digester.address (chunks_of c.args.draft.now.chunks) c.args.table.now contents at.stands in
    all_entered c.keys_keep_order.ensures.whole c.keys_keep_order.ensures.before c.args.table.now.schema c.args.index.now c.args.cells.now has.valid c.requires.places c.requires.fits contents.rows c.entries.rows (scan_rest c.entries.scan)
    (c.entries.invariant contents at) c.in_default.ensures.gives.0
