use Rattle.std.proofs.Common.{◌∷◌, [], ap, arith}
use Rattle.tuple_codec.specs.Nodes.{Item}
use Rattle.tuple_codec.specs.Trees.{rows_in}
use Rattle.node_format.specs.Views.{ref_of}
use Rattle.node_chunker.proofs.GrowthLemmas.{rows_join}
use Rattle.node_chunker.proofs.NodeLemmas.{single_last}
use Rattle.node_chunker.proofs.inners.OpenInner.add.Goals as goal

pub overflow_add-self : goal.overflow_add-self
overflow_add-self c =
    omega (arith, c.self.invariant.1, ap rows_in c.self.view_is, rows_join c.args.self.now (ref_of c.args.item.now ∷ []), c.requires.fits.few)

pub invariant_of-self-2 : goal.invariant_of-self-2
invariant_of-self-2 c =
    let items = c.self.inside.node.items in
    let pushed = c.in_ok-push_name.ensures.ok in
    let x : Item = record { key = c.as_slice.result.now; body = c.args.item.now.address.0; rows = c.args.item.now.rows } in (
      omega (arith, c.in_ok-push_name.ensures.level, c.self.invariant.0),
      omega (arith, c.self.invariant.1, ap rows_in pushed, rows_join items (x ∷ [])),
      λ single. ap (λ (i : Item). i.body) (single_last items c.push_name.new.self.items x pushed single),
    )
