use Rattle.std.proofs.Common.{◌≡◌, ◌<◌, ◌+◌, ℕ, List, length, get_or, drop, ap, sym, subst, ◌∙◌, suc, arith}
use Rattle.std.proofs.Math.Seq.{drop-cons}
use Rattle.tuple_codec.specs.Nodes.{Item}
use Rattle.tuple_codec.specs.Edits.{putting, puts}
use Rattle.tuple_codec.specs.declared.edits.Edit.{Edit}
use Rattle.chunk_store.specs.Drafts.{chunks_of}
use Rattle.chunk_store.specs.Kinds.{is_node}
use Rattle.chunk_store.proofs.GrowthLemmas.{drafts_grow}
use Rattle.prolly_edit.specs.Stages.{Awaits}
use Rattle.prolly_edit.proofs.merging.put_edits.Goals as goal

-- the edits that are left begin with this one
next_edit : (edits : List Edit) (at : ℕ) (edit : Edit) → at < length edits → edit ≡ get_or edits at edit → puts (drop at edits) ≡ putting edit.key edit.value (puts (drop (at + 1) edits))
next_edit edits at edit within is =
    let e : suc at ≡ at + 1 = omega arith in
    ap puts (drop-cons edits at edit within) ∙ ap (λ x. putting x.key x.value (puts (drop (suc at) edits))) (sym is)
    ∙ ap (λ n. putting edit.key edit.value (puts (drop n edits))) e

pub put_edit-requires-after_bounds : goal.put_edit-requires-after_bounds
put_edit-requires-after_bounds g c κs within =
    let P : List Item → Type 0 = λ l. Awaits g.D.Digester.address (chunks_of c.loop-edit.draft.chunks) c.loop-edit.tower l c.requires.0 in
    let next = next_edit c.args.edits.now c.loop-edit.edit-index c.edit-item.result c.loop-edit-test.true c.edit-item.is in
    (puts (drop (c.loop-edit.edit-index + 1) c.args.edits.now), c.requires.0, subst P next (c.loop-edit.invariant.awaits c.requires.0 c.requires.1))

pub loop-edit-preserved : goal.loop-edit-preserved
loop-edit-preserved g c = record {
  grows = drafts_grow.in_steps is_node c.args.draft.now c.loop-edit.draft c.put_edit.new.draft c.loop-edit.invariant.grows c.in_ok-put_edit.ensures.grows;
  awaits = λ whole awaits.
      let P : List Item → Type 0 = λ l. Awaits g.D.Digester.address (chunks_of c.loop-edit.draft.chunks) c.loop-edit.tower l whole in
      let next = next_edit c.args.edits.now c.loop-edit.edit-index c.edit-item.result c.loop-edit-test.true c.edit-item.is in
      c.in_ok-put_edit.ensures.ok (puts (drop (c.loop-edit.edit-index + 1) c.args.edits.now)) whole (subst P next (c.loop-edit.invariant.awaits whole awaits));
}
