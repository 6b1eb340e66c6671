use Rattle.std.proofs.Common.{◌≡◌, ◌∙◌, List, subst}
use Rattle.std.specs.List.{list_any}
use Rattle.std.specs.Prelude.{IfOk}
use Rattle.tuple_codec.specs.Rows.{Cells}
use Rattle.schema_model.specs.declared.schemas.Schema.{Schema}
use Rattle.chunk_store.specs.Drafts.{chunks_of}
use Rattle.table_root.specs.Standing.{table_of_lists}
use Rattle.plain_sessions.specs.Merging.{their_rows}
use Rattle.merge_procs.specs.Resolving.{is_flawed}
use Rattle.sql_write.proofs.PlaceLemmas.{schema_same}
use Rattle.sql_write.proofs.TurnLemmas.{valid_schema}
use Rattle.merge_procs.proofs.TakingLemmas.{takings_of}
use Rattle.merge_procs.proofs.takings.table_takes_flawed.Goals as goal

pub read_table-requires-after_bounds : goal.read_table-requires-after_bounds
read_table-requires-after_bounds g c κs within =
    let address = g.D.Digester.address in
    (table_of_lists address c.requires.0, c.laws_of_growth.ensures.tables.found address (chunks_of c.args.draft.now.chunks) c.args.address.now.0 c.requires.0 c.requires.1)

pub theirs_edits-requires-after_bounds : goal.theirs_edits-requires-after_bounds
theirs_edits-requires-after_bounds g c κs within =
    let address = g.D.Digester.address in
    let chunks = chunks_of c.args.draft.now.chunks in
    (c.requires.0, c.laws_of_growth.ensures.values.read address chunks c.args.address.now.0 c.requires.0 c.in_ok-table.table c.requires.1 c.in_ok-table.ensures)

pub taken_rows-requires-clause-schema : goal.taken_rows-requires-clause-schema
taken_rows-requires-clause-schema g c =
    let address = g.D.Digester.address in
    let chunks = chunks_of c.args.draft.now.chunks in
    let stands = c.laws_of_growth.ensures.values.read address chunks c.args.address.now.0 c.requires.0 c.in_ok-table.table c.requires.1 c.in_ok-table.ensures in
    valid_schema address chunks c.in_ok-table.table c.requires.0 stands

pub taken_rows-requires-clause-edits : goal.taken_rows-requires-clause-edits
taken_rows-requires-clause-edits g c =
    let address = g.D.Digester.address in
    let chunks = chunks_of c.args.draft.now.chunks in
    let contents = c.requires.0 in
    let stands = c.laws_of_growth.ensures.values.read address chunks c.args.address.now.0 contents c.in_ok-table.table c.requires.1 c.in_ok-table.ensures in
    (contents.conflicts, takings_of address chunks c.in_ok-table.table contents c.as_slice.result.now stands (c.as_slice.ensures ∙ c.in_ok-edits.ensures contents stands))

pub returns : goal.returns
returns g c = λ contents at.
    let address = g.D.Digester.address in
    let chunks = chunks_of c.args.draft.now.chunks in
    let stands = c.laws_of_growth.ensures.values.read address chunks c.args.address.now.0 contents c.in_ok-table.table at c.in_ok-table.ensures in
    let rows = c.as_slice-2.ensures ∙ c.in_ok-rows.ensures contents.conflicts (takings_of address chunks c.in_ok-table.table contents c.as_slice.result.now stands (c.as_slice.ensures ∙ c.in_ok-edits.ensures contents stands)) in
    subst (λ (s : Schema). IfOk c.any_flawed.result (λ found. found ≡ list_any (is_flawed c.args.flaw s) (their_rows contents))) (schema_same address chunks c.in_ok-table.table contents stands)
    (subst (λ (l : List Cells). IfOk c.any_flawed.result (λ found. found ≡ list_any (is_flawed c.args.flaw c.in_ok-table.table.schema) l)) rows c.any_flawed.ensures)
