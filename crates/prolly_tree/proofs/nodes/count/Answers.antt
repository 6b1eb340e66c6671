use Rattle.std.proofs.Common.{◌≡◌, ◌<◌, ◌^◌, List, length, sym, ap, ◌∙◌, subst, arith}
use Rattle.tuple_codec.specs.Nodes.{IsNode, Item, Node}
use Rattle.tuple_codec.specs.Trees.{rows_in}
use Rattle.chunk_store.specs.Drafts.{chunks_of}
use Rattle.prolly_tree.proofs.Standing.{trees_lead}
use Rattle.prolly_tree.proofs.Descents.{rows_counted}
use Rattle.prolly_tree.proofs.nodes.count.Goals as goal

pub known_at-requires-after_bounds : goal.known_at-requires-after_bounds
known_at-requires-after_bounds g c κs within =
    let t = trees_lead g.D.Digester.address (chunks_of c.args.draft.now.chunks) c.args.root.now.0 c.requires.tree.0 c.requires.tree.1 in
    (t.0, t.1.opens.stored)

pub rows_in-requires-clause-node : goal.rows_in-requires-clause-node
rows_in-requires-clause-node g c =
    let t = trees_lead g.D.Digester.address (chunks_of c.args.draft.now.chunks) c.args.root.now.0 c.requires.tree.0 c.requires.tree.1 in
    subst IsNode (sym (c.known_at.ensures t.0 t.1.opens.stored)) t.1.opens.stored.is_node

pub rows_in-requires-clause-few : goal.rows_in-requires-clause-few
rows_in-requires-clause-few g c =
    let chunks = chunks_of c.args.draft.now.chunks in
    let t = trees_lead g.D.Digester.address chunks c.args.root.now.0 c.requires.tree.0 c.requires.tree.1 in
    let e : c.known_at.result ≡ t.0 = c.known_at.ensures t.0 t.1.opens.stored in
    let count : rows_in t.0.items ≡ length c.requires.tree.0 = sym (rows_counted chunks t.0 t.1.opens.leads) ∙ ap (λ (l : List Item). length l) t.1.rows_are in
    let few = c.requires.tree.1.are_rows.few in
    let bound : rows_in t.0.items < 2 ^ 64 = omega (arith, count, few) in
    subst (λ (n : Node). rows_in n.items < 2 ^ 64) (sym e) bound

pub returns : goal.returns
returns g c = λ rows tree.
    let chunks = chunks_of c.args.draft.now.chunks in
    let t = trees_lead g.D.Digester.address chunks c.args.root.now.0 rows tree in
    let e : c.known_at.result ≡ t.0 = c.known_at.ensures t.0 t.1.opens.stored in
    c.rows_in.ensures ∙ ap (λ (n : Node). rows_in n.items) e ∙ sym (rows_counted chunks t.0 t.1.opens.leads) ∙ ap (λ (l : List Item). length l) t.1.rows_are
