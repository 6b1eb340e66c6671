use Rattle.std.proofs.Common.{◌≡◌, ◌∷◌, ℕ, List, ap, subst, ◌∙◌}
use Rattle.tuple_codec.specs.Nodes.{Item}
use Rattle.tuple_codec.specs.Edits.{edited, order, putting}
use Rattle.std.specs.Ordering.{is_lt}
use Rattle.tuple_codec.specs.declared.edits.Edit.{Edit}
use Rattle.chunk_store.specs.Drafts.{chunks_of}
use Rattle.chunk_store.specs.Kinds.{is_node}
use Rattle.chunk_store.proofs.GrowthLemmas.{drafts_grow}
use Rattle.prolly_edit.specs.Stages.{Awaits, IsFirstBefore}
use Rattle.prolly_edit.proofs.EditLemmas.{edit_before}
use Rattle.prolly_edit.proofs.merging.put_before.Goals as goal

-- the first of the edits is put before the row
next_edit : (key : List ℕ) (left : List Edit) (edit : Edit) (others : List Edit) (row : Item) (rows : List Item) → row.key ≡ key → IsFirstBefore key left edit others
    → edited (row ∷ rows) left ≡ putting edit.key edit.value (edited (row ∷ rows) others)
next_edit key left edit others row rows same first =
    ap (edited (row ∷ rows)) first.are ∙ edit_before row rows edit others (ap (λ k. is_lt (order edit.key k)) same ∙ first.below)

pub put_edit-requires-after_bounds : goal.put_edit-requires-after_bounds
put_edit-requires-after_bounds g c κs within =
    let row = c.requires.0 in
    let rows = c.requires.1 in
    let whole = c.requires.2 in
    let P : List Item → Type 0 = λ l. Awaits g.D.Digester.address (chunks_of c.lower.draft.chunks) c.lower.tower l whole in
    let next = next_edit c.args.key.now c.lower.left.now c.in-Some.edit.now c.in-Some.others.now row rows c.requires.3 c.in-Some.ensures in
    (edited (row ∷ rows) c.in-Some.others.now, whole, subst P next (c.lower.invariant.awaits row rows whole c.requires.3 c.requires.4))

pub lower-preserved : goal.lower-preserved
lower-preserved g c = record {
  grows = drafts_grow.in_steps is_node c.args.draft.now c.lower.draft c.put_edit.new.draft c.lower.invariant.grows c.in_ok-put_edit.ensures.grows;
  awaits = λ row rows whole same awaits.
      let P : List Item → Type 0 = λ l. Awaits g.D.Digester.address (chunks_of c.lower.draft.chunks) c.lower.tower l whole in
      let next = next_edit c.args.key.now c.lower.left.now c.in-Some.edit.now c.in-Some.others.now row rows same c.in-Some.ensures in
      c.in_ok-put_edit.ensures.ok (edited (row ∷ rows) c.in-Some.others.now) whole (subst P next (c.lower.invariant.awaits row rows whole same awaits));
}
