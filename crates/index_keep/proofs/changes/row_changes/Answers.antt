use Rattle.std.proofs.Common.{List, ◌++◌, ◌+◌, ◌∙◌, ap, drop}
use Rattle.chunk_store.specs.Drafts.{chunks_of}
use Rattle.index_keep.specs.Entries.{changes_at, keys_of}
use Rattle.index_keep.specs.declared.changes.RowChange.{RowChange}
use Rattle.index_keep.proofs.ReadLemmas.{changes_more, row_edit}
use Rattle.index_keep.proofs.changes.row_changes.Goals as goal

pub row_change-requires-clause-edit : goal.row_change-requires-clause-edit
row_change-requires-clause-edit g c κs within = (
  c.requires.edits.0,
  c.requires.edits.1,
  row_edit g.D.Digester.address (chunks_of c.args.draft.now.chunks) c.args.root.now.0 c.args.schema.now c.args.edits.now c.requires.edits.0 c.requires.edits.1 c.requires.edits.2
      c.loop-edit.edit-index c.edit-item.result c.loop-edit-test.true c.edit-item.is,
)

pub loop-edit-preserved : goal.loop-edit-preserved
loop-edit-preserved g c rows others is =
    let schema = c.args.schema.now in
    let edits = c.args.edits.now in
    let at = c.loop-edit.edit-index in
    let edit = c.edit-item.result in
    let one = row_edit g.D.Digester.address (chunks_of c.args.draft.now.chunks) c.args.root.now.0 schema edits rows others is at edit c.loop-edit-test.true c.edit-item.is in
    let change = c.in_ok-row_change.field-0 in
    let done = c.loop-edit.changes.items in
    ap (λ (l : List RowChange). l ++ changes_at schema rows others (keys_of (drop (at + 1) edits))) c.in_ok-push.ensures.items
    ∙ changes_more schema rows others edits at edit done change (changes_at schema rows others (keys_of edits)) c.loop-edit-test.true c.edit-item.is
    (c.in_ok-row_change.ensures rows others one) (c.loop-edit.invariant rows others is)
