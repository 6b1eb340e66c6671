use Rattle.std.proofs.Common.{◌≡◌, ◌+◌, ◌<◌, ◌^◌, List, length, sym, ap, ◌∙◌, subst, arith}
use Rattle.std.specs.List.{list_all}
use Rattle.tuple_codec.specs.Rows.{Cells}
use Rattle.tuple_codec.specs.declared.edits.Edit.{Edit}
use Rattle.chunk_store.specs.Drafts.{chunks_of}
use Rattle.schema_model.specs.PlainTables.{is_row, rises}
use Rattle.plain_writes.specs.Writes.{keyed_cmp}
use Rattle.sql_write.specs.Differences.{row_edits}
use Rattle.sql_write.specs.Putting.{CanFill}
use Rattle.sql_write.proofs.TurnLemmas.{can_turn, has_some, new_fit, new_rise, old_fit, old_rise, valid_schema}
use Rattle.sql_write.proofs.updating.put_turned.Goals as goal

pub row_edits-requires-clause-schema : goal.row_edits-requires-clause-schema
row_edits-requires-clause-schema g c = valid_schema g.D.Digester.address (chunks_of c.args.draft.now.chunks) c.args.found.table c.requires.1 c.requires.3.found_is.stands

pub row_edits-requires-clause-old : goal.row_edits-requires-clause-old
row_edits-requires-clause-old g c =
    old_fit g.D.Digester.address (chunks_of c.args.draft.now.chunks) c.args.database.now.0 c.args.name.now c.args.found c.args.old.now c.args.turned.now c.requires.0 c.requires.1 c.requires.2 c.requires.3

pub row_edits-requires-clause-new : goal.row_edits-requires-clause-new
row_edits-requires-clause-new g c =
    ap (λ (l : List Cells). list_all (is_row c.args.found.table.schema) l) c.as_slice-rows.ensures
    ∙ new_fit g.D.Digester.address (chunks_of c.args.draft.now.chunks) c.args.database.now.0 c.args.name.now c.args.found c.args.old.now c.args.turned.now c.requires.0 c.requires.1 c.requires.2 c.requires.3

pub row_edits-requires-clause-old_rise : goal.row_edits-requires-clause-old_rise
row_edits-requires-clause-old_rise g c =
    old_rise g.D.Digester.address (chunks_of c.args.draft.now.chunks) c.args.database.now.0 c.args.name.now c.args.found c.args.old.now c.args.turned.now c.requires.0 c.requires.1 c.requires.2 c.requires.3

pub row_edits-requires-clause-new_rise : goal.row_edits-requires-clause-new_rise
row_edits-requires-clause-new_rise g c =
    ap (λ (l : List Cells). rises (keyed_cmp c.args.found.table.schema) l) c.as_slice-rows.ensures
    ∙ new_rise g.D.Digester.address (chunks_of c.args.draft.now.chunks) c.args.database.now.0 c.args.name.now c.args.found c.args.old.now c.args.turned.now c.requires.0 c.requires.1 c.requires.2 c.requires.3

pub rows_then-count-requires-after_bounds : goal.rows_then-count-requires-after_bounds
rows_then-count-requires-after_bounds g c κs within = (
  c.requires.1,
  has_some g.D.Digester.address (chunks_of c.args.draft.now.chunks) c.args.database.now.0 c.args.name.now c.args.found c.args.old.now c.args.turned.now c.requires.0 c.requires.1 c.requires.2 c.requires.3,
)

pub fill_table-requires-after_bounds : goal.fill_table-requires-after_bounds
fill_table-requires-after_bounds g c κs within =
    let address = g.D.Digester.address in
    let chunks = chunks_of c.args.draft.now.chunks in
    let before = c.requires.0 in
    let contents = c.requires.1 in
    let rows = c.requires.2 in
    let may = c.requires.3 in
    let turned = c.args.turned.now in
    let seen = c.as_slice-rows.result.now in
    let count = c.rows_then-count.result in
    let short : length seen + 10000000 < 2 ^ 63 = omega (arith, c.as_slice-rows.type_inv.1) in
    let counted = subst (λ (l : List Cells). count + length c.args.old.now ≡ length contents.rows + length l) c.as_slice-rows.ensures
    (c.rows_then-count.ensures contents (has_some address chunks c.args.database.now.0 c.args.name.now c.args.found c.args.old.now turned before contents rows may)) in (
      before,
      contents,
      rows,
      subst (λ (l : List Edit). CanFill address chunks c.args.database.now.0 c.args.found.tables.items c.args.found.table l count before contents rows) (sym c.as_slice.ensures.value)
          (can_turn address chunks c.args.database.now.0 c.args.name.now c.args.found c.args.old.now turned before contents rows may c.law_of_row_items.ensures c.edits_by_key.ensures.changes
          c.in_ok-edits.edits.items count counted (subst (λ (l : List Cells). length l + 10000000 < 2 ^ 63) c.as_slice-rows.ensures short) c.in_ok-edits.ensures.rise
          (c.in_ok-edits.ensures.is ∙ ap (λ (l : List Cells). row_edits c.args.found.table.schema c.args.old.now l) c.as_slice-rows.ensures)),
    )

pub returns-clause-done : goal.returns-clause-done
returns-clause-done g c = λ before contents rows may.
    let address = g.D.Digester.address in
    let chunks = chunks_of c.args.draft.now.chunks in
    let turned = c.args.turned.now in
    let seen = c.as_slice-rows.result.now in
    let count = c.rows_then-count.result in
    let short : length seen + 10000000 < 2 ^ 63 = omega (arith, c.as_slice-rows.type_inv.1) in
    let counted = subst (λ (l : List Cells). count + length c.args.old.now ≡ length contents.rows + length l) c.as_slice-rows.ensures
    (c.rows_then-count.ensures contents (has_some address chunks c.args.database.now.0 c.args.name.now c.args.found c.args.old.now turned before contents rows may)) in
    c.fill_table.ensures.done before contents rows
    (subst (λ (l : List Edit). CanFill address chunks c.args.database.now.0 c.args.found.tables.items c.args.found.table l count before contents rows) (sym c.as_slice.ensures.value)
    (can_turn address chunks c.args.database.now.0 c.args.name.now c.args.found c.args.old.now turned before contents rows may c.law_of_row_items.ensures c.edits_by_key.ensures.changes
    c.in_ok-edits.edits.items count counted (subst (λ (l : List Cells). length l + 10000000 < 2 ^ 63) c.as_slice-rows.ensures short) c.in_ok-edits.ensures.rise
    (c.in_ok-edits.ensures.is ∙ ap (λ (l : List Cells). row_edits c.args.found.table.schema c.args.old.now l) c.as_slice-rows.ensures)))
