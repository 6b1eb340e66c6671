use Rattle.std.proofs.Common.{◌+◌, ◌∙◌, length, ap, refl}
use Rattle.tuple_codec.specs.Nodes.{items_bytes, leaf_item}
use Rattle.node_chunker.proofs.NodeLemmas.{last_room, ends_is}
use Rattle.node_chunker.proofs.leaves.OpenLeaf.ends_after.Goals as goal

pub ends_from-requires-clause-key : goal.ends_from-requires-clause-key
ends_from-requires-clause-key g c κs within =
    last_room 0 c.args.self.now (leaf_item c.args.key.now c.args.value.now) c.args.key.now c.requires.fits refl

pub returns : goal.returns
returns g c =
    let node = c.self.inside.node in
    let held = c.args.self.now in
    let size = c.size.ensures ∙ ap (λ l. 4 + length (items_bytes l node.items)) c.self.invariant ∙ ap (λ l. 4 + length (items_bytes 0 l)) c.self.view_is in
    let count = c.from-count.ensures ∙ c.count.ensures ∙ ap length c.self.view_is in
    c.ends_from.ensures
    ∙ ends_is g.D.Digester.address 0 held (leaf_item c.args.key.now c.args.value.now) c.size.result c.row_size.result c.from-count.result c.args.key.now
    size c.row_size.ensures.size count refl
