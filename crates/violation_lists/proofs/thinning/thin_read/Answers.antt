use Rattle.std.proofs.Common.{◌≡◌, ◌∙◌, ◌||◌, ℕ, List, ap, cond, filter, map, []}
use Rattle.chunk_store.specs.Drafts.{chunks_of}
use Rattle.schema_model.specs.Schemas.{is_schema}
use Rattle.schema_model.specs.declared.schemas.Schema.{Schema}
use Rattle.plain_writes.specs.Seen.{named_seen, table_seen}
use Rattle.table_root.specs.declared.records.StoredTable.{StoredTable}
use Rattle.violation_lists.specs.Thinned.{has_null_key, is_judged, is_parent, thin_named}
use Rattle.violation_lists.proofs.StandLemmas.{rows_there, table_found, table_same}
use Rattle.violation_lists.proofs.thinning.thin_read.Goals as goal

pub read_table-requires-after_bounds : goal.read_table-requires-after_bounds
read_table-requires-after_bounds g c κs within =
    table_found g.D.Digester.address (chunks_of c.args.draft.now.chunks) c.args.entry.now.table.0 c.law_of_tables.ensures.tables c.requires.0 c.requires.1

pub thin_rows-requires-clause-schema : goal.thin_rows-requires-clause-schema
thin_rows-requires-clause-schema g c κs within =
    let at = c.requires.1 in
    let same = table_same g.D.Digester.address (chunks_of c.args.draft.now.chunks) c.args.entry.now.table.0 c.law_of_tables.ensures.tables c.requires.0 at c.in_ok-table.table c.in_ok-table.ensures in
    ap (λ (t : StoredTable). is_schema t.schema) same ∙ at.is_table.schema

pub thin_rows-requires-clause-tree : goal.thin_rows-requires-clause-tree
thin_rows-requires-clause-tree g c κs within =
    let contents = c.requires.0 in
    (contents.rows, rows_there g.D.Digester.address (chunks_of c.args.draft.now.chunks) c.args.entry.now.table.0 c.law_of_tables.ensures.tables contents c.requires.1 c.in_ok-table.table c.in_ok-table.ensures)

pub returns : goal.returns
returns g c = λ contents at.
    let address = g.D.Digester.address in
    let chunks = chunks_of c.args.draft.now.chunks in
    let stand = c.law_of_tables.ensures.tables in
    let tables = map named_seen c.args.schemas.now in
    let schema = ap (λ (t : StoredTable). t.schema) (table_same address chunks c.args.entry.now.table.0 stand contents at c.in_ok-table.table c.in_ok-table.ensures) in
    let whole = c.is_whole-whole.ensures
    ∙ ap (λ (s : Schema). is_judged s || is_parent tables c.as_slice.result.now) schema
    ∙ ap (λ (n : List ℕ). is_judged contents.schema || is_parent tables n) c.as_slice.ensures in
    let rows = c.in_ok-rows.ensures contents.rows (rows_there address chunks c.args.entry.now.table.0 stand contents at c.in_ok-table.table c.in_ok-table.ensures)
    ∙ (λ i. cond (whole i) contents.rows (filter (has_null_key (schema i)) contents.rows)) in
    let name = c.in_ok-name.ensures ∙ c.as_slice-2.ensures in
    let table : table_seen c.bare_table.result ≡ (thin_named tables (record { name = c.args.entry.now.name; table = contents })).table =
    ap table_seen c.bare_table.ensures ∙ (λ i. record { schema = schema i; rows = rows i; conflicts = []; violations = [] }) in
    (λ i. record { name = name i; table = table i })
