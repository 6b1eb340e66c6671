use Rattle.std.proofs.Common.{List, [], ◌∷◌, ◌++◌, map, sym, ap, ◌∙◌, subst}
use Rattle.chunk_store.specs.Drafts.{chunks_of}
use Rattle.prolly_tree.specs.Lists.{from_key, pair_of}
use Rattle.prolly_tree.specs.Walks.{scan_rest}
use Rattle.schema_model.specs.PlainTables.{row_item}
use Rattle.tuple_codec.specs.Rows.{Cells}
use Rattle.sql_select.proofs.ScanLemmas.{IsSeeking, begins, next, over}
use Rattle.sql_select.proofs.SpanLemmas.{row_place}
use Rattle.sql_select.proofs.TableLemmas.{has_rows}
use Rattle.sql_select.proofs.span_reading.rows_in_span.Goals as goal

pub start_bytes-requires-clause-schema : goal.start_bytes-requires-clause-schema
start_bytes-requires-clause-schema g c =
    let has = has_rows g.D.Digester.address (chunks_of c.args.draft.now.chunks) c.args.table.now c.requires.table.0 c.requires.table.1 in
    has.valid

pub scan_from-requires-clause-tree : goal.scan_from-requires-clause-tree
scan_from-requires-clause-tree g c = λ κs within.
    let contents = c.requires.table.0 in
    let has = has_rows g.D.Digester.address (chunks_of c.args.draft.now.chunks) c.args.table.now contents c.requires.table.1 in
    (map (row_item c.args.table.now.schema) contents.rows, has.tree)

pub rows-init : goal.rows-init
rows-init g c = λ contents of.
    let schema = c.args.table.now.schema in
    let span = c.args.span.now in
    let has = has_rows g.D.Digester.address (chunks_of c.args.draft.now.chunks) c.args.table.now contents of in
    let items = map (row_item schema) contents.rows in
    subst (λ (l : List Cells). IsSeeking schema span l (scan_rest c.in_ok-scan.scan) contents.rows) (sym c.new-rows.ensures)
    (begins c.keys_keep_order.ensures.before schema span contents.rows (scan_rest c.in_ok-scan.scan) has.valid c.requires.span has.fit has.rise
    (c.in_ok-scan.ensures items has.tree ∙ ap (λ bytes. map pair_of (from_key bytes items)) (c.as_slice.ensures ∙ c.in_ok-start.ensures)))

pub row_of-requires-clause-schema : goal.row_of-requires-clause-schema
row_of-requires-clause-schema g c =
    let has = has_rows g.D.Digester.address (chunks_of c.args.draft.now.chunks) c.args.table.now c.requires.table.0 c.requires.table.1 in
    has.valid

pub row_of-requires-clause-row : goal.row_of-requires-clause-row
row_of-requires-clause-row g c =
    let contents = c.requires.table.0 in
    let f = next c.args.table.now.schema c.args.span.now c.rows.rows contents.rows (scan_rest c.rows.scan) (scan_rest c.next.new.self) (c.in-Some.key.now, c.in-Some.value.now)
    (c.rows.invariant contents c.requires.table.1) c.in-Some.ensures.gives in
    (f.row, f.is)

pub rows-preserved-in-Less-1 : goal.rows-preserved-in-Less-1
rows-preserved-in-Less-1 g c = λ contents of.
    let schema = c.args.table.now.schema in
    let span = c.args.span.now in
    let f = next schema span c.rows.rows contents.rows (scan_rest c.rows.scan) (scan_rest c.next.new.self) (c.in-Some.key.now, c.in-Some.value.now) (c.rows.invariant contents of) c.in-Some.ensures.gives in
    f.before (ap (row_place schema span) (sym (c.as_slice-in-Some.ensures ∙ c.in_ok-row.ensures f.row f.is)) ∙ sym c.in_ok-side_of_row.ensures ∙ c.in-Less.is)

pub rows-preserved : goal.rows-preserved
rows-preserved g c = λ contents of.
    let schema = c.args.table.now.schema in
    let span = c.args.span.now in
    let f = next schema span c.rows.rows contents.rows (scan_rest c.rows.scan) (scan_rest c.next.new.self) (c.in-Some.key.now, c.in-Some.value.now) (c.rows.invariant contents of) c.in-Some.ensures.gives in
    let read = c.in_ok-row.ensures f.row f.is in
    subst (λ (l : List Cells). IsSeeking schema span l (scan_rest c.next.new.self) contents.rows) (ap (λ (row : Cells). c.rows.rows ++ row ∷ []) (sym read) ∙ sym c.in_ok-push-in-Equal.ensures.ok)
    (f.within (ap (row_place schema span) (sym (c.as_slice-in-Some.ensures ∙ read)) ∙ sym c.in_ok-side_of_row.ensures ∙ c.in-Equal.is))

pub returns-in-Greater : goal.returns-in-Greater
returns-in-Greater g c = λ contents of.
    let schema = c.args.table.now.schema in
    let span = c.args.span.now in
    let f = next schema span c.rows.rows contents.rows (scan_rest c.rows.scan) (scan_rest c.next.new.self) (c.in-Some.key.now, c.in-Some.value.now) (c.rows.invariant contents of) c.in-Some.ensures.gives in
    f.behind (ap (row_place schema span) (sym (c.as_slice-in-Some.ensures ∙ c.in_ok-row.ensures f.row f.is)) ∙ sym c.in_ok-side_of_row.ensures ∙ c.in-Greater.is)

pub returns : goal.returns
returns g c = λ contents of. over c.args.table.now.schema c.args.span.now c.rows.rows contents.rows (scan_rest c.rows.scan) (c.rows.invariant contents of) c.in_default.ensures.gives.0
