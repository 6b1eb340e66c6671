use Rattle.std.proofs.Common.{◌+◌, ◌∙◌, length, ap, refl, arith}
use Rattle.tuple_codec.specs.Nodes.{item_bytes, items_bytes}
use Rattle.node_format.specs.Views.{ref_of}
use Rattle.node_chunker.proofs.NodeLemmas.{inner_item, inner_room, last_room, inner_ends, items_same}
use Rattle.node_chunker.proofs.inners.OpenInner.ends_after.Goals as goal

pub name_size-requires : goal.name_size-requires
name_size-requires g c = inner_item c.args.level c.args.self.now (ref_of c.args.item.now) c.requires.level c.requires.fits

pub ends_from-requires-clause-key : goal.ends_from-requires-clause-key
ends_from-requires-clause-key g c κs within = last_room c.args.level c.args.self.now (ref_of c.args.item.now) c.as_slice.result.now c.requires.fits c.as_slice.ensures

pub returns : goal.returns
returns g c =
    let node = c.self.inside.node in
    let held = c.args.self.now in
    let size = c.size.ensures ∙ ap (λ l. 4 + length l) (items_same node.level node.items c.self.invariant.0) ∙ ap (λ l. 4 + length (items_bytes 1 l)) c.self.view_is in
    let count = c.from-count.ensures ∙ c.count.ensures ∙ ap length c.self.view_is in
    c.ends_from.ensures
    ∙ inner_ends g.D.Digester.address c.args.level held (ref_of c.args.item.now) c.size.result c.name_size.result c.from-count.result c.as_slice.result.now c.requires.level
    size c.name_size.ensures.size count c.as_slice.ensures

pub overflow_cast-size : goal.overflow_cast-size
overflow_cast-size g c =
    let node = c.self.inside.node in
    let x = ref_of c.args.item.now in
    let size = c.size.ensures ∙ ap (λ l. 4 + length l) (items_same node.level node.items c.self.invariant.0) ∙ ap (λ l. 4 + length (items_bytes 1 l)) c.self.view_is in
    omega (arith, inner_room c.args.level c.args.self.now x c.size.result (length (item_bytes 1 x)) c.requires.level c.requires.fits size refl)

pub overflow_add-size : goal.overflow_add-size
overflow_add-size g c =
    let node = c.self.inside.node in
    let size = c.size.ensures ∙ ap (λ l. 4 + length l) (items_same node.level node.items c.self.invariant.0) ∙ ap (λ l. 4 + length (items_bytes 1 l)) c.self.view_is in
    omega (arith, inner_room c.args.level c.args.self.now (ref_of c.args.item.now) c.size.result c.name_size.result c.requires.level c.requires.fits size c.name_size.ensures.size)
