use Rattle.std.proofs.Common.{◌∷◌, [], ◌++◌, List, map, take, ap, sym, subst, ◌∙◌}
use Rattle.tuple_codec.specs.Nodes.{Item, leaf_item}
use Rattle.tuple_codec.specs.Trees.{AreRows}
use Rattle.node_format.specs.Views.{leaf_of}
use Rattle.chunk_store.specs.Drafts.{chunks_of}
use Rattle.chunk_store.specs.Kinds.{is_node}
use Rattle.chunk_store.proofs.GrowthLemmas.{drafts_grow}
use Rattle.node_chunker.specs.Growth.{IsTower}
use Rattle.node_chunker.proofs.ClimbLemmas.{row_more, row_next}
use Rattle.node_chunker.proofs.builds.build.Goals as goal

pub loop-row-init : goal.loop-row-init
loop-row-init g c = (c.in_ok-tower.ensures g.D.Digester.address (chunks_of c.args.draft.now.chunks), drafts_grow.itself is_node c.args.draft.now)

pub push_row-requires-after_bounds : goal.push_row-requires-after_bounds
push_row-requires-after_bounds g c κs live =
    let P : Item → Type 0 = λ i. AreRows (map leaf_of (take c.loop-row.row-index c.args.rows.now) ++ i ∷ []) in (
      map leaf_of (take c.loop-row.row-index c.args.rows.now),
      c.loop-row.invariant.0,
      subst P (sym (ap (λ k. leaf_item k c.as_slice-in-loop-row.result.now) c.as_slice.ensures ∙ ap (λ v. leaf_item c.row-item.result.key v) c.as_slice-in-loop-row.ensures))
          (row_next c.args.rows.now c.loop-row.row-index c.row-item.result c.loop-row-test.true c.row-item.is c.requires),
    )

pub loop-row-preserved : goal.loop-row-preserved
loop-row-preserved g c =
    let a = g.D.Digester.address in
    let rows = map leaf_of (take c.loop-row.row-index c.args.rows.now) in
    let P : List Item → Type 0 = λ l. IsTower a (chunks_of c.push_row.new.draft.chunks) c.push_row.new.self l in (
      subst P (ap (λ i. rows ++ i ∷ []) (ap (λ k. leaf_item k c.as_slice-in-loop-row.result.now) c.as_slice.ensures ∙ ap (λ v. leaf_item c.row-item.result.key v) c.as_slice-in-loop-row.ensures)
          ∙ sym (row_more c.args.rows.now c.loop-row.row-index c.row-item.result c.loop-row-test.true c.row-item.is)) (c.in_ok-push_row.ensures.ok rows c.loop-row.invariant.0),
      drafts_grow.in_steps is_node c.args.draft.now c.loop-row.draft c.push_row.new.draft c.loop-row.invariant.1 c.in_ok-push_row.ensures.grows,
    )
