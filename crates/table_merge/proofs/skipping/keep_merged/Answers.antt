use Rattle.std.proofs.Common.{List, map, refl, subst, sym, arith}
use Rattle.tuple_codec.specs.Edits.{edited}
use Rattle.tuple_codec.specs.declared.edits.Edit.{Edit}
use Rattle.node_format.specs.Views.{leaf_of}
use Rattle.node_format.specs.declared.items.LeafItem.{LeafItem}
use Rattle.chunk_store.specs.Chunks.{Extends}
use Rattle.chunk_store.specs.Drafts.{chunks_of}
use Rattle.chunk_store.specs.Kinds.{is_node}
use Rattle.chunk_store.specs.Standing.{IsTree}
use Rattle.prolly_tree.proofs.Growing.{tree_later}
use Rattle.prolly_edit.specs.Editing.{CanEdit}
use Rattle.table_merge.proofs.KeepLemmas.{tree_rows}
use Rattle.table_merge.proofs.skipping.keep_merged.Goals as goal

pub apply-requires-after_bounds : goal.apply-requires-after_bounds
apply-requires-after_bounds g c κs within = (
  c.requires.rows.0,
  subst (λ (l : List Edit). CanEdit g.D.Digester.address (chunks_of c.args.draft.now.chunks) c.args.ours.now.0 l c.requires.rows.0) (sym c.as_slice.ensures.value) c.requires.rows.1,
)

pub build-requires-after_bounds : goal.build-requires-after_bounds
build-requires-after_bounds g c κs within = tree_rows c.as_slice-2.result.now c.args.merged.now.conflicts.items c.as_slice-2.ensures.value c.requires.conflicts (omega (arith, c.as_slice-2.type_inv.1))

pub returns-clause-kept : goal.returns-clause-kept
returns-clause-kept g c = λ old tree.
    let address = g.D.Digester.address in
    let one = c.apply.new.draft in
    let two = c.build.new.draft in
    let three = c.build-2.new.draft in
    let drafts = c.law_of_drafts.ensures in
    let growth = c.law_of_growth.ensures in
    let first : Extends (chunks_of one.chunks) (chunks_of two.chunks) = drafts.longer_extends one.chunks two.chunks (growth.is_longer is_node one two c.build.ensures.grows) in
    let next : Extends (chunks_of two.chunks) (chunks_of three.chunks) = drafts.longer_extends two.chunks three.chunks (growth.is_longer is_node two three c.build-2.ensures.grows) in
    let rows = subst (λ (l : List Edit). IsTree address (chunks_of one.chunks) c.in_ok-rows.rows.0 (edited old l)) c.as_slice.ensures.value (c.in_ok-rows.ensures.ok old tree) in
    let conflicts = subst (λ (l : List LeafItem). IsTree address (chunks_of two.chunks) c.in_ok-conflicts.conflicts.0 (map leaf_of l)) c.as_slice-2.ensures.value c.in_ok-conflicts.ensures.ok in
    record {
      schema_is = refl;
      rows_stand =
          tree_later address (chunks_of two.chunks) (chunks_of three.chunks) next c.in_ok-rows.rows.0 (edited old c.args.merged.now.edits.items)
          (tree_later address (chunks_of one.chunks) (chunks_of two.chunks) first c.in_ok-rows.rows.0 (edited old c.args.merged.now.edits.items) rows);
      conflicts_stand = tree_later address (chunks_of two.chunks) (chunks_of three.chunks) next c.in_ok-conflicts.conflicts.0 (map leaf_of c.args.merged.now.conflicts.items) conflicts;
      none_stand = c.in_ok-violations.ensures.ok;
      indexes_are = c.new.ensures;
    }
