use Rattle.std.proofs.Common.{◌≡◌, ◌<◌, ◌++◌, ◌∙◌, ap, subst, sym, arith}
use Rattle.tuple_codec.specs.Nodes.{Node, Rise}
use Rattle.chunk_store.specs.Drafts.{chunks_of}
use Rattle.prolly_tree.specs.Standing.{rows_below}
use Rattle.prolly_tree.specs.Lists.{from_key, place_of}
use Rattle.prolly_tree.specs.Walks.{CanWalk, Left, rows_above}
use Rattle.prolly_tree.proofs.WalkLemmas.{below, down_can, down_to, seek_down, seek_over}
use Rattle.prolly_tree.proofs.paths.Path.seek.Goals as goal

pub node_at-node-requires-after_bounds : goal.node_at-node-requires-after_bounds
node_at-node-requires-after_bounds g c κs within =
    let b = below (chunks_of c.args.draft.now.chunks) c.levels.self c.in-Some.address.0 c.levels.invariant.can c.in-Some.ensures in
    (b.0, b.1.stored)

pub levels-smaller : goal.levels-smaller
levels-smaller g c =
    let b = below (chunks_of c.args.draft.now.chunks) c.levels.self c.in-Some.address.0 c.levels.invariant.can c.in-Some.ensures in
    let e : c.down.new.self ≡ down_to c.levels.self b.0 c.place_of-at.result =
    c.down.ensures ∙ ap (λ (n : Node). down_to c.levels.self n c.place_of-at.result) (c.node_at-node.ensures b.0 b.1.stored) in
    let same : c.down.new.self.here.level ≡ b.0.level = ap (λ (l : Left). l.here.level) e in
    let lower = b.1.lower in
    let smaller : c.down.new.self.here.level < c.levels.self.here.level = omega (arith, same, lower) in
    smaller

pub levels-preserved : goal.levels-preserved
levels-preserved g c =
    let chunks = chunks_of c.args.draft.now.chunks in
    let key = c.args.key.now in
    let b = below chunks c.levels.self c.in-Some.address.0 c.levels.invariant.can c.in-Some.ensures in
    let n = c.node_at-node.ensures b.0 b.1.stored in
    let e : c.down.new.self ≡ down_to c.levels.self b.0 c.place_of-at.result =
    c.down.ensures ∙ ap (λ (n : Node). down_to c.levels.self n c.place_of-at.result) n in
    let place : c.place_of-at.result ≡ place_of key b.0.items = c.place_of-at.ensures.place ∙ ap (λ (n : Node). place_of key n.items) n in
    let s = seek_down chunks key c.levels.self c.in-Some.address.0 b.0 c.place_of-at.result c.levels.invariant.can c.in-Some.ensures b.1 c.levels.invariant.rise c.levels.invariant.begun place in
    record {
      can = subst (CanWalk chunks) (sym e) (down_can chunks c.levels.self c.in-Some.address.0 b.0 c.place_of-at.result c.levels.invariant.can b.1);
      rise = subst (λ (l : Left). Rise (rows_below chunks l.here)) (sym e) s.0;
      begun = subst (λ (l : Left). from_key key l.here.items ≡ l.here.items) (sym e) s.1;
      rest = ap (λ (l : Left). from_key key (rows_below chunks l.here) ++ rows_above chunks l.above) e ∙ s.2 ∙ c.levels.invariant.rest;
    }

pub returns-clause-rest : goal.returns-clause-rest
returns-clause-rest g c =
    seek_over (chunks_of c.args.draft.now.chunks) c.args.key.now c.levels.self c.in_default.ensures c.levels.invariant.begun ∙ c.levels.invariant.rest
