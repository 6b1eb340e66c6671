use Rattle.std.proofs.Common.{◌≡◌, ◌∙◌, List, sym, subst}
use Rattle.chunk_store.specs.Drafts.{chunks_of}
use Rattle.schema_model.specs.PlainTables.{row_items}
use Rattle.tuple_codec.specs.Edits.{edited}
use Rattle.tuple_codec.specs.declared.addresses.Address.{Address}
use Rattle.prolly_tree.proofs.Growing.{tree_later}
use Rattle.index_keep.specs.Entries.{changes_at, keys_of}
use Rattle.index_keep.specs.Steps.{CanEditIndexes}
use Rattle.index_keep.proofs.MakingLemmas.{grown}
use Rattle.index_keep.proofs.TableLemmas.{indexes_can, is_schema_of, rows_can, rows_edit, table_after}
use Rattle.index_keep.proofs.tables.apply_with_indexes.Goals as goal

pub row_changes-requires-clause-schema : goal.row_changes-requires-clause-schema
row_changes-requires-clause-schema g c κs within =
    is_schema_of g.D.Digester.address (chunks_of c.args.draft.now.chunks) c.args.table c.args.edits.now c.requires.0 c.requires.1 c.requires.2

pub row_changes-requires-clause-edits : goal.row_changes-requires-clause-edits
row_changes-requires-clause-edits g c κs within = (
  c.requires.0.rows,
  c.requires.1,
  rows_edit g.D.Digester.address (chunks_of c.args.draft.now.chunks) c.args.table c.args.edits.now c.requires.0 c.requires.1 c.requires.2,
)

pub apply-requires-after_bounds : goal.apply-requires-after_bounds
apply-requires-after_bounds g c κs within = (
  row_items c.requires.0,
  rows_can g.D.Digester.address (chunks_of c.args.draft.now.chunks) c.args.table c.args.edits.now c.requires.0 c.requires.1 c.requires.2,
)

pub edit_indexes-requires-after_bounds : goal.edit_indexes-requires-after_bounds
edit_indexes-requires-after_bounds g c κs within =
    let address = g.D.Digester.address in
    let old = chunks_of c.args.draft.now.chunks in
    let later = chunks_of c.apply.new.draft.chunks in
    let table = c.args.table in
    let edits = c.args.edits.now in
    let contents = c.requires.0 in
    let rows = c.requires.1 in
    let can = c.requires.2 in
    let are : c.as_slice-3.result.now ≡ changes_at table.schema contents.rows rows (keys_of edits) =
    c.as_slice-3.ensures.value ∙ c.in_ok-changes.ensures contents.rows rows (rows_edit address old table edits contents rows can) in
    let more = grown c.args.draft.now c.apply.new.draft c.apply.ensures.grows in (
      contents.rows,
      rows,
      keys_of edits,
      subst (λ (l : List Address). CanEditIndexes address later table.schema table.schema.indexes l c.as_slice-3.result.now contents.rows rows (keys_of edits)) (sym c.as_slice-2.ensures)
          (indexes_can address old table edits contents rows can c.law_of_row_items.ensures later more c.as_slice-3.result.now are),
    )

pub returns-clause-ok : goal.returns-clause-ok
returns-clause-ok g c contents rows can =
    let address = g.D.Digester.address in
    let old = chunks_of c.args.draft.now.chunks in
    let later = chunks_of c.apply.new.draft.chunks in
    let last = chunks_of c.edit_indexes.new.draft.chunks in
    let table = c.args.table in
    let edits = c.args.edits.now in
    let are : c.as_slice-3.result.now ≡ changes_at table.schema contents.rows rows (keys_of edits) =
    c.as_slice-3.ensures.value ∙ c.in_ok-changes.ensures contents.rows rows (rows_edit address old table edits contents rows can) in
    let more = grown c.args.draft.now c.apply.new.draft c.apply.ensures.grows in
    let again = grown c.apply.new.draft c.edit_indexes.new.draft c.edit_indexes.ensures.grows in
    let all = subst (λ (l : List Address). CanEditIndexes address later table.schema table.schema.indexes l c.as_slice-3.result.now contents.rows rows (keys_of edits)) (sym c.as_slice-2.ensures)
    (indexes_can address old table edits contents rows can c.law_of_row_items.ensures later more c.as_slice-3.result.now are) in
    let stand = c.in_ok-indexes.ensures.ok contents.rows rows (keys_of edits) all in
    let tree = c.in_ok-rows.ensures.ok (row_items contents) (rows_can address old table edits contents rows can).tree in
    let now = tree_later address later last again c.in_ok-rows.rows.0 (edited (row_items contents) edits) tree in
    table_after address old table edits contents rows can c.law_of_row_items.ensures last (λ k bytes e. again k bytes (more k bytes e)) c.in_ok-rows.rows now c.in_ok-indexes.indexes stand
