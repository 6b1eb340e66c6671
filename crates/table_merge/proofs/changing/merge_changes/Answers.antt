use Rattle.std.proofs.Common.{◌∙◌, List, subst, sym}
use Rattle.std.specs.List.{AllByRecursion}
use Rattle.tuple_codec.specs.declared.edits.ItemChange.{ItemChange}
use Rattle.chunk_store.specs.Drafts.{chunks_of}
use Rattle.table_merge.specs.Skipping.{AreDecided, IsChangeOf}
use Rattle.table_merge.proofs.SkipLemmas.{base_items, changes_are, merges, their_items}
use Rattle.table_merge.proofs.changing.merge_changes.Goals as goal

pub decide_changes-requires-after_bounds : goal.decide_changes-requires-after_bounds
decide_changes-requires-after_bounds g c κs within =
    let s = c.args.schema.now in
    let three = c.requires.0 in
    let can = c.requires.1 in
    let read = c.as_slice.ensures.value ∙ c.in_ok-changes.ensures.changes (base_items s three) (their_items s three) can.base_tree can.their_tree in (
      three,
      record {
        kept = can.kept;
        tree = can.our_tree;
        changes_are = subst (AllByRecursion (IsChangeOf s three)) (sym read) (changes_are s three can.kept can.base_tree.are_rows.rise can.their_tree.are_rows.rise);
      },
    )

pub returns : goal.returns
returns g c = λ three can.
    let s = c.args.schema.now in
    let read = c.as_slice.ensures.value ∙ c.in_ok-changes.ensures.changes (base_items s three) (their_items s three) can.base_tree can.their_tree in
    let all = changes_are s three can.kept can.base_tree.are_rows.rise can.their_tree.are_rows.rise in
    let decided = c.decide_changes.ensures three (record { kept = can.kept; tree = can.our_tree; changes_are = subst (AllByRecursion (IsChangeOf s three)) (sym read) all }) in
    merges s three can.kept can.base_tree.are_rows.rise can.their_tree.are_rows.rise can.our_tree.are_rows.each can.our_tree.are_rows.rise c.decide_changes.result
    (subst (λ (l : List ItemChange). AreDecided c.decide_changes.result s three l) read decided)
