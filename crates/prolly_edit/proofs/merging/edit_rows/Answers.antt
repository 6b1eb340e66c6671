use Rattle.std.proofs.Common.{◌≤◌, ◌++◌, ◌+◌, List, drop, length, refl, subst, ap, ◌∙◌, arith}
use Rattle.tuple_codec.specs.Nodes.{Item, item_bytes, leaf_item}
use Rattle.tuple_codec.specs.Trees.{bytes_of}
use Rattle.tuple_codec.specs.Edits.{edited}
use Rattle.chunk_store.specs.Drafts.{chunks_of}
use Rattle.chunk_store.specs.Kinds.{is_node}
use Rattle.chunk_store.proofs.GrowthLemmas.{drafts_grow}
use Rattle.prolly_tree.proofs.PassingLemmas.{each_row, leaf_spelled, others_here, row_is, row_read, size_here}
use Rattle.prolly_edit.specs.Stages.{Awaits}
use Rattle.prolly_edit.proofs.StageLemmas.{drop_some}
use Rattle.prolly_edit.proofs.KeepLemmas.{size_next, size_within}
use Rattle.prolly_edit.proofs.merging.edit_rows.Goals as goal

pub loop-at-init : goal.loop-at-init
loop-at-init g c = record {
  spelled = leaf_spelled c.args.leaf.now.level c.args.leaf.now.items _ c.requires.leaf c.items-rest.ensures.bytes;
  size_is = refl;
  grows = drafts_grow.itself is_node c.args.draft.now;
  awaits = λ more whole awaits. awaits;
}

pub first_row-requires : goal.first_row-requires
first_row-requires g c =
    let items = c.args.leaf.now.items in
    row_is items c.loop-at.at c.loop-at.rest.now (each_row c.args.leaf.now.level items c.requires.leaf c.items-rest.ensures.node.items) c.loop-at.invariant.spelled (omega arith)

pub row_size-wide-requires : goal.row_size-wide-requires
row_size-wide-requires g c =
    let items = c.args.leaf.now.items in
    let at = c.loop-at.at in
    let row = leaf_item c.first_row.result.0.now c.first_row.result.1.now in
    let each = each_row c.args.leaf.now.level items c.requires.leaf c.items-rest.ensures.node.items in
    let here = row_read items at c.loop-at.rest.now c.first_row.result.0.now c.first_row.result.1.now each c.loop-at.invariant.spelled (omega arith) c.first_row.ensures in
    omega (
      arith,
      size_next 0 items at row c.loop-at.size (length (item_bytes 0 row)) here.got refl c.loop-at.invariant.size_is,
      size_within 0 items (at + 1) (subst (λ level. length (bytes_of level items) ≤ 65536) c.requires.leaf c.requires.small),
    )

pub split_at-requires : goal.split_at-requires
split_at-requires g c =
    let items = c.args.leaf.now.items in
    let at = c.loop-at.at in
    let row = leaf_item c.first_row.result.0.now c.first_row.result.1.now in
    let each = each_row c.args.leaf.now.level items c.requires.leaf c.items-rest.ensures.node.items in
    let here = row_read items at c.loop-at.rest.now c.first_row.result.0.now c.first_row.result.1.now each c.loop-at.invariant.spelled (omega arith) c.first_row.ensures in
    omega (arith, size_here 0 _ items at c.loop-at.rest.now row here, here.long, c.row_size-wide.ensures.size)

pub overflow_add-size : goal.overflow_add-size
overflow_add-size g c =
    let items = c.args.leaf.now.items in
    let at = c.loop-at.at in
    let row = leaf_item c.first_row.result.0.now c.first_row.result.1.now in
    let each = each_row c.args.leaf.now.level items c.requires.leaf c.items-rest.ensures.node.items in
    let here = row_read items at c.loop-at.rest.now c.first_row.result.0.now c.first_row.result.1.now each c.loop-at.invariant.spelled (omega arith) c.first_row.ensures in
    omega (
      arith,
      size_next 0 items at row c.loop-at.size c.row_size-wide.result here.got c.row_size-wide.ensures.size c.loop-at.invariant.size_is,
      size_within 0 items (at + 1) (subst (λ level. length (bytes_of level items) ≤ 65536) c.requires.leaf c.requires.small),
    )

pub edit_row-requires-clause-awaits : goal.edit_row-requires-clause-awaits
edit_row-requires-clause-awaits g c κs within =
    let items = c.args.leaf.now.items in
    let at = c.loop-at.at in
    let more = c.requires.awaits.0 in
    let whole = c.requires.awaits.1 in
    let row = leaf_item c.first_row.result.0.now c.first_row.result.1.now in
    let each = each_row c.args.leaf.now.level items c.requires.leaf c.items-rest.ensures.node.items in
    let here = row_read items at c.loop-at.rest.now c.first_row.result.0.now c.first_row.result.1.now each c.loop-at.invariant.spelled (omega arith) c.first_row.ensures in
    let P : List Item → Type 0 = λ l. Awaits g.D.Digester.address (chunks_of c.loop-at.draft.chunks) c.loop-at.tower (edited (l ++ more) c.loop-at.left.now) whole in
    (drop (at + 1) items ++ more, whole, subst P (drop_some items at row here.got) (c.loop-at.invariant.awaits more whole c.requires.awaits.2))

pub edit_row-requires-clause-known : goal.edit_row-requires-clause-known
edit_row-requires-clause-known g c κs within =
    let items = c.args.leaf.now.items in
    let at = c.loop-at.at in
    let row = leaf_item c.first_row.result.0.now c.first_row.result.1.now in
    let each = each_row c.args.leaf.now.level items c.requires.leaf c.items-rest.ensures.node.items in
    let here = row_read items at c.loop-at.rest.now c.first_row.result.0.now c.first_row.result.1.now each c.loop-at.invariant.spelled (omega arith) c.first_row.ensures in
    c.steps_at-steps.ensures g.D.Digester.address 0 row c.requires.stays here.got
    (size_next 0 items at row c.loop-at.size c.row_size-wide.result here.got c.row_size-wide.ensures.size c.loop-at.invariant.size_is)

pub loop-at-preserved : goal.loop-at-preserved
loop-at-preserved g c =
    let items = c.args.leaf.now.items in
    let at = c.loop-at.at in
    let row = leaf_item c.first_row.result.0.now c.first_row.result.1.now in
    let each = each_row c.args.leaf.now.level items c.requires.leaf c.items-rest.ensures.node.items in
    let here = row_read items at c.loop-at.rest.now c.first_row.result.0.now c.first_row.result.1.now each c.loop-at.invariant.spelled (omega arith) c.first_row.ensures in
    record {
      spelled = c.split_at.ensures.back ∙ ap (λ n. drop n c.loop-at.rest.now) (c.row_size-wide.ensures.size ∙ here.long)
          ∙ others_here 0 _ items at c.loop-at.rest.now row here;
      size_is = size_next 0 items at row c.loop-at.size c.row_size-wide.result here.got c.row_size-wide.ensures.size c.loop-at.invariant.size_is;
      grows = drafts_grow.in_steps is_node c.args.draft.now c.loop-at.draft c.edit_row.new.draft c.loop-at.invariant.grows c.in_ok-left.ensures.grows;
      awaits = λ more whole awaits.
          let P : List Item → Type 0 = λ l. Awaits g.D.Digester.address (chunks_of c.loop-at.draft.chunks) c.loop-at.tower (edited (l ++ more) c.loop-at.left.now) whole in
          c.in_ok-left.ensures.ok (drop (at + 1) items ++ more) whole (subst P (drop_some items at row here.got) (c.loop-at.invariant.awaits more whole awaits));
    }
