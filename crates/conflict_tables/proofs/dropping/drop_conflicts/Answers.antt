use Rattle.std.proofs.Common.{◌∙◌, List, sym, subst}
use Rattle.tuple_codec.specs.Edits.{edited}
use Rattle.tuple_codec.specs.declared.edits.Edit.{Edit}
use Rattle.chunk_store.specs.Chunks.{Extends}
use Rattle.chunk_store.specs.Drafts.{chunks_of}
use Rattle.chunk_store.specs.Kinds.{is_node}
use Rattle.chunk_store.specs.Standing.{IsTree}
use Rattle.prolly_edit.specs.Editing.{CanEdit}
use Rattle.schema_model.specs.PlainTables.{conflict_items}
use Rattle.table_root.specs.Standing.{IsTableOf}
use Rattle.table_root.specs.declared.records.StoredTable.{StoredTable}
use Rattle.conflict_tables.specs.Conflicts.{without_conflicts}
use Rattle.conflict_tables.proofs.DropLemmas.{can_drop, own_tree, without_stands}
use Rattle.conflict_tables.proofs.dropping.drop_conflicts.Goals as goal

pub removals-requires-after_bounds : goal.removals-requires-after_bounds
removals-requires-after_bounds g c κs within =
    (conflict_items c.requires.0, own_tree g.D.Digester.address (chunks_of c.args.draft.now.chunks) c.args.table.now c.requires.0 c.requires.1)

pub apply-requires-after_bounds : goal.apply-requires-after_bounds
apply-requires-after_bounds g c κs within =
    let address = g.D.Digester.address in
    let old = chunks_of c.args.draft.now.chunks in
    let items = conflict_items c.requires.0 in
    let k = c.args.table.now.conflicts.0 in
    let tree = own_tree address old c.args.table.now c.requires.0 c.requires.1 in (
      items,
      subst (λ (l : List Edit). CanEdit address old k l items) (sym (c.as_slice.ensures.value ∙ c.in_ok-edits.ensures items tree)) (can_drop c.args.keys.now address old k items tree),
    )

pub returns-clause-stands : goal.returns-clause-stands
returns-clause-stands g c = λ contents of.
    let address = g.D.Digester.address in
    let old = c.args.draft.now in
    let new = c.apply.new.draft in
    let more : Extends (chunks_of old.chunks) (chunks_of new.chunks) = c.law_of_drafts.ensures.longer_extends old.chunks new.chunks (c.law_of_growth.ensures.is_longer is_node old new c.apply.ensures.grows) in
    let items = conflict_items contents in
    let tree = own_tree address (chunks_of old.chunks) c.args.table.now contents of in
    let left = subst (λ (l : List Edit). IsTree address (chunks_of new.chunks) c.in_ok-conflicts.conflicts.0 (edited items l)) (c.as_slice.ensures.value ∙ c.in_ok-edits.ensures items tree)
    (c.in_ok-conflicts.ensures.ok items tree) in
    let table = c.args.table.now in
    let k = c.in_ok-conflicts.conflicts in
    let stands = without_stands c.args.keys.now address (chunks_of old.chunks) (chunks_of new.chunks) more c.law_of_tables.ensures.values table contents k of left in
    let schema = c.in_ok-copy_schema.ensures in
    let roots = c.in_ok-copy_roots.ensures ∙ c.as_slice-2.ensures in
    subst (λ (t : StoredTable). IsTableOf address (chunks_of new.chunks) t (without_conflicts c.args.keys.now contents))
    (λ i. record { schema = sym schema i; rows = table.rows; indexes = sym roots i; conflicts = k; violations = table.violations }) stands
