use Rattle.std.proofs.Common.{◌≡◌, ◌<◌, ◌∙◌, ap, subst, sym, arith}
use Rattle.tuple_codec.specs.Nodes.{Node}
use Rattle.chunk_store.specs.Drafts.{chunks_of}
use Rattle.prolly_tree.specs.Walks.{CanWalk, IsEmptyAbove, Left, rows_left}
use Rattle.prolly_tree.proofs.WalkLemmas.{below, down_can, down_rows, down_settled, down_to}
use Rattle.prolly_tree.proofs.paths.Path.to_row.Goals as goal

pub levels-init : goal.levels-init
levels-init g c = record {
  can = c.settle.ensures.can (chunks_of c.args.draft.now.chunks) c.requires;
  kept = c.settle.ensures.kept (chunks_of c.args.draft.now.chunks);
  settled = c.settle.ensures.settled;
}

pub node_at-requires-after_bounds : goal.node_at-requires-after_bounds
node_at-requires-after_bounds g c κs within =
    let b = below (chunks_of c.args.draft.now.chunks) c.levels.self c.in-Some.address.0 c.levels.invariant.can c.in-Some.ensures in
    (b.0, b.1.stored)

pub levels-smaller : goal.levels-smaller
levels-smaller g c =
    let b = below (chunks_of c.args.draft.now.chunks) c.levels.self c.in-Some.address.0 c.levels.invariant.can c.in-Some.ensures in
    let e : c.down.new.self ≡ down_to c.levels.self b.0 0 =
    c.down.ensures ∙ ap (λ (n : Node). down_to c.levels.self n 0) (c.node_at.ensures b.0 b.1.stored) in
    let same : c.down.new.self.here.level ≡ b.0.level = ap (λ (l : Left). l.here.level) e in
    let lower = b.1.lower in
    let smaller : c.down.new.self.here.level < c.levels.self.here.level = omega (arith, same, lower) in
    smaller

pub levels-preserved : goal.levels-preserved
levels-preserved g c =
    let chunks = chunks_of c.args.draft.now.chunks in
    let b = below chunks c.levels.self c.in-Some.address.0 c.levels.invariant.can c.in-Some.ensures in
    let e : c.down.new.self ≡ down_to c.levels.self b.0 0 =
    c.down.ensures ∙ ap (λ (n : Node). down_to c.levels.self n 0) (c.node_at.ensures b.0 b.1.stored) in
    record {
      can = subst (CanWalk chunks) (sym e) (down_can chunks c.levels.self c.in-Some.address.0 b.0 0 c.levels.invariant.can b.1);
      kept = ap (rows_left chunks) e ∙ down_rows chunks c.levels.self c.in-Some.address.0 b.0 b.1 ∙ c.levels.invariant.kept;
      settled = subst IsEmptyAbove (sym e) (down_settled chunks c.levels.self c.in-Some.address.0 b.0 b.1);
    }
