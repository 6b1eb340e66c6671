use Rattle.std.proofs.Common.{◌≡◌, ap, sym, ◌∙◌, subst}
use Rattle.tuple_codec.specs.Nodes.{Node}
use Rattle.chunk_store.specs.Drafts.{chunks_of}
use Rattle.prolly_tree.specs.Walks.{CanWalk, IsEmptyAbove}
use Rattle.prolly_tree.specs.Fronts.{Front, Walking, front_of, nodes_of, opened}
use Rattle.prolly_tree.proofs.WalkLemmas.{below, down_can, down_settled, down_to}
use Rattle.prolly_tree.proofs.FrontLemmas.{down_front, opened_over}
use Rattle.prolly_tree.proofs.walks.Walk.open.Goals as goal

pub node_at-node-requires-after_bounds : goal.node_at-node-requires-after_bounds
node_at-node-requires-after_bounds g c κs within =
    let b = below (chunks_of c.self.inside.draft.now.chunks) c.self.inside.path c.in-Some.address.0 c.self.invariant.can c.in-Some.ensures in
    (b.0, b.1.stored)

pub invariant_of-self : goal.invariant_of-self
invariant_of-self g c =
    let chunks = chunks_of c.self.inside.draft.now.chunks in
    let b = below chunks c.self.inside.path c.in-Some.address.0 c.self.invariant.can c.in-Some.ensures in
    let e : c.down.new.self ≡ down_to c.self.inside.path b.0 0 =
    c.down.ensures ∙ ap (λ (n : Node). down_to c.self.inside.path n 0) (c.node_at-node.ensures b.0 b.1.stored) in
    record {
      can = subst (CanWalk chunks) (sym e) (down_can chunks c.self.inside.path c.in-Some.address.0 b.0 0 c.self.invariant.can b.1);
      settled = subst IsEmptyAbove (sym e) (down_settled chunks c.self.inside.path c.in-Some.address.0 b.0 b.1);
    }

pub returns-in-Some : goal.returns-in-Some
returns-in-Some g c =
    let chunks = chunks_of c.self.inside.draft.now.chunks in
    let b = below chunks c.self.inside.path c.in-Some.address.0 c.self.invariant.can c.in-Some.ensures in
    let e : c.down.new.self ≡ down_to c.self.inside.path b.0 0 =
    c.down.ensures ∙ ap (λ (n : Node). down_to c.self.inside.path n 0) (c.node_at-node.ensures b.0 b.1.stored) in
    ap (λ (f : Front). record { parts = c.self.inside.draft.now.chunks; front = f })
    (ap front_of e ∙ down_front chunks c.self.inside.path c.in-Some.address.0 b.0 c.in-Some.ensures b.1)
    ∙ ap (λ (w : Walking). record { parts = w.parts; front = opened (nodes_of w.parts) w.front }) c.self.view_is

pub returns-in_default : goal.returns-in_default
returns-in_default g c =
    let stays = opened_over (nodes_of c.self.inside.draft.now.chunks) c.self.inside.path c.self.invariant.settled c.in_default.ensures in
    subst (λ (w : Walking). w ≡ record { parts = w.parts; front = opened (nodes_of w.parts) w.front }) c.self.view_is
    (ap (λ (f : Front). record { parts = c.self.inside.draft.now.chunks; front = f }) (sym stays))
