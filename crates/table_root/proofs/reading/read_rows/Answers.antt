use Rattle.std.proofs.Common.{List, [], ◌∷◌, ◌++◌, map, sym, ap, ◌∙◌, subst}
use Rattle.prolly_tree.specs.Walks.{scan_rest}
use Rattle.schema_model.specs.PlainTables.{row_item}
use Rattle.tuple_codec.specs.Rows.{Cells}
use Rattle.table_root.proofs.ReadingLemmas.{IsReading, begins, first, over}
use Rattle.table_root.proofs.reading.read_rows.Goals as goal

pub rows-init : goal.rows-init
rows-init g c = λ rows at.
    let schema = c.args.schema.now in
    subst (λ (l : List Cells). IsReading schema l (scan_rest c.in_ok-scan.scan) rows) (sym c.new-rows.ensures)
    (begins schema rows (scan_rest c.in_ok-scan.scan) at.fit (c.in_ok-scan.ensures (map (row_item schema) rows) at.tree))

pub read_row-requires-clause-row : goal.read_row-requires-clause-row
read_row-requires-clause-row g c =
    let rows = c.requires.tree.0 in
    let f = first c.args.schema.now c.rows.rows rows (scan_rest c.rows.scan) (scan_rest c.next.new.self) (c.in-Some.key.now, c.in-Some.value.now)
    (c.rows.invariant rows c.requires.tree.1) c.in-Some.ensures.gives in
    (f.row, f.is)

pub rows-preserved : goal.rows-preserved
rows-preserved g c = λ rows at.
    let schema = c.args.schema.now in
    let f = first schema c.rows.rows rows (scan_rest c.rows.scan) (scan_rest c.next.new.self) (c.in-Some.key.now, c.in-Some.value.now) (c.rows.invariant rows at) c.in-Some.ensures.gives in
    let read = c.in_ok-read_row.ensures f.row f.is in
    subst (λ (l : List Cells). IsReading schema l (scan_rest c.next.new.self) rows) (ap (λ (row : Cells). c.rows.rows ++ row ∷ []) (sym read) ∙ sym c.in_ok-push.ensures.ok) f.reading

pub returns : goal.returns
returns g c = λ rows at. over c.args.schema.now c.rows.rows rows (scan_rest c.rows.scan) (c.rows.invariant rows at) c.in_default.ensures.gives.0
