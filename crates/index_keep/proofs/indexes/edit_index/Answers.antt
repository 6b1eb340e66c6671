use Rattle.std.proofs.Common.{◌≡◌, true, List, sym, subst}
use Rattle.std.specs.Prelude.{IfOk}
use Rattle.std.specs.List.{list_all}
use Rattle.chunk_store.specs.Drafts.{chunks_of}
use Rattle.chunk_store.specs.Standing.{IsTree}
use Rattle.schema_model.specs.PlainTables.{index_items}
use Rattle.tuple_codec.specs.Nodes.{Item}
use Rattle.tuple_codec.specs.declared.edits.Edit.{Edit}
use Rattle.index_keep.specs.Entries.{AreSorted, edits_of_changes}
use Rattle.index_keep.specs.Keeping.{table_of_rows}
use Rattle.index_keep.specs.Steps.{change_fits}
use Rattle.index_keep.specs.declared.changes.RowChange.{RowChange}
use Rattle.index_keep.proofs.ChangeLemmas.{changes_fit}
use Rattle.index_keep.proofs.PutLemmas.{index_can}
use Rattle.index_keep.proofs.indexes.edit_index.Goals as goal

pub edits_of_changes-requires-clause-schema : goal.edits_of_changes-requires-clause-schema
edits_of_changes-requires-clause-schema g c = c.requires.3.changed.valid

pub edits_of_changes-requires-clause-index : goal.edits_of_changes-requires-clause-index
edits_of_changes-requires-clause-index g c = c.requires.3.index_in

pub edits_of_changes-requires-clause-rows : goal.edits_of_changes-requires-clause-rows
edits_of_changes-requires-clause-rows g c =
    let can = c.requires.3 in
    subst (λ (l : List RowChange). list_all (change_fits c.args.schema.now) l ≡ true) (sym can.changes_are)
    (changes_fit c.args.schema.now c.requires.0 c.requires.1 c.requires.2 can.changed.rows_fit can.changed.others_fit)

pub apply-requires-after_bounds : goal.apply-requires-after_bounds
apply-requires-after_bounds g c κs within =
    let schema = c.args.schema.now in
    let index = c.args.index.now in
    let sorted = subst (λ (l : List Edit). AreSorted (edits_of_changes schema index c.args.changes.now) l) (sym c.as_slice.ensures.value) c.in_ok-edits.ensures in (
      index_items (table_of_rows schema c.requires.0) index,
      (index_can c.keys_are_one_spelling.ensures g.D.Digester.address (chunks_of c.args.draft.now.chunks) c.args.root.now.0 schema index c.args.changes.now c.requires.0 c.requires.1 c.requires.2
          c.as_slice.result.now c.requires.3 sorted).0,
    )

pub returns-clause-ok : goal.returns-clause-ok
returns-clause-ok g c rows others keys can =
    let schema = c.args.schema.now in
    let index = c.args.index.now in
    let sorted = subst (λ (l : List Edit). AreSorted (edits_of_changes schema index c.args.changes.now) l) (sym c.as_slice.ensures.value) c.in_ok-edits.ensures in
    let is = index_can c.keys_are_one_spelling.ensures g.D.Digester.address (chunks_of c.args.draft.now.chunks) c.args.root.now.0 schema index c.args.changes.now rows others keys
    c.as_slice.result.now can sorted in
    subst (λ (l : List Item). IfOk c.apply.result (λ made. IsTree g.D.Digester.address (chunks_of c.apply.new.draft.chunks) made.0 l)) is.1
    (c.apply.ensures.ok (index_items (table_of_rows schema rows) index) is.0.tree)
