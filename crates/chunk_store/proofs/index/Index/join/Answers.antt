use Rattle.std.proofs.Common.{◌<◌, ◌+◌, ◌^◌, List, drop, map, ap, ◌∙◌}
use Rattle.tuple_codec.proofs.Lists.{have_at as all_get}
use Rattle.chunk_store.specs.declared.index.Placed.{Placed}
use Rattle.chunk_store.specs.Placing.{gather_placed, placed_behind, with_placed}
use Rattle.chunk_store.proofs.BuildLemmas.{gather_placed_next, with_placed_step}
use Rattle.chunk_store.proofs.index.Index.join.Goals as goal

pub behind-requires : goal.behind-requires
behind-requires c = all_get (λ (x : Placed). x.span.page + c.args.pages < 2 ^ 32) c.args.other.now.placed c.loop-at.at c.at.result c.requires c.at.ensures.at

pub loop-at-preserved : goal.loop-at-preserved
loop-at-preserved c =
    let at = c.loop-at.at in
    let f = placed_behind c.args.pages in
    let before = c.loop-at.self.placed in
    let rest = map f (drop (at + 1) c.args.other.now.placed) in
    let added = with_placed_step c.add-added.result c.make_room.new.self.placed c.add-added.new.self.placed c.behind.result c.add-added.ensures.absent c.add-added.ensures.longer c.add-added.ensures.there
    c.add-added.ensures.same in
    ap (λ (l : List Placed). gather_placed l rest) (added ∙ ap (λ (l : List Placed). with_placed l c.behind.result) c.make_room.ensures.same)
    ∙ ap (λ (p : Placed). gather_placed (with_placed before p) rest) c.behind.ensures
    ∙ gather_placed_next before c.args.other.now.placed at c.at.result f c.at.ensures.at ∙ c.loop-at.invariant
