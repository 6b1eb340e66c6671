use Rattle.std.proofs.Common.{◌∙◌, ap, map, subst}
use Rattle.chunk_store.specs.Drafts.{chunks_of}
use Rattle.table_root.specs.declared.records.StoredTable.{StoredTable}
use Rattle.sql_select.specs.Sources.{typed_column}
use Rattle.sql_select.specs.Seeks.{AreNeeded}
use Rattle.sql_select.proofs.SeekLemmas.{serves}
use Rattle.sql_select.proofs.StandLemmas.{table_found, table_of, table_same}
use Rattle.sql_select.proofs.reading.table_known.Goals as goal

pub read_table-requires-after_bounds : goal.read_table-requires-after_bounds
read_table-requires-after_bounds g c κs within =
    table_found g.D.Digester.address (chunks_of c.args.draft.now.chunks) c.args.address.now.0 c.law_of_tables.ensures.tables c.requires.0 c.requires.1

pub rows_needed-requires-after_bounds : goal.rows_needed-requires-after_bounds
rows_needed-requires-after_bounds g c κs within =
    let contents = c.requires.0 in
    (contents, table_of g.D.Digester.address (chunks_of c.args.draft.now.chunks) c.args.address.now.0 c.law_of_tables.ensures.values contents c.requires.1 c.in_ok-table.table c.in_ok-table.ensures)

pub returns : goal.returns
returns g c = λ contents at.
    let address = g.D.Digester.address in
    let chunks = chunks_of c.args.draft.now.chunks in
    let same = table_same address chunks c.args.address.now.0 c.law_of_tables.ensures.tables contents at c.in_ok-table.table c.in_ok-table.ensures in
    let name = c.in_ok-from_slice.ensures ∙ c.as_slice.ensures in
    let columns = c.in_ok-typed_columns.ensures ∙ ap (map typed_column) c.as_slice-2.ensures ∙ ap (λ (t : StoredTable). map typed_column t.schema.columns) same in
    let needed = subst (λ (t : StoredTable). AreNeeded c.args.query.now t.schema contents.rows c.in_ok-rows.rows) same
    (c.in_ok-rows.ensures contents (table_of address chunks c.args.address.now.0 c.law_of_tables.ensures.values contents at c.in_ok-table.table c.in_ok-table.ensures)) in
    serves c.args.query.now c.args.name.now contents (record { name = c.in_ok-from_slice.field-0; columns = c.in_ok-typed_columns.field-0; rows = c.in_ok-rows.rows }) c.in_ok-rows.rows at.is_table name
    (λ i. record { name = c.in_ok-from_slice.field-0; columns = columns i; rows = c.in_ok-rows.rows }) needed
