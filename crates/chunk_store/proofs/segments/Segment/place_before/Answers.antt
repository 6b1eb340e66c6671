use Rattle.std.proofs.Common.{◌≡◌, ◌-◌}
use Rattle.chunk_store.proofs.MatchLemmas.{pair_same, same_at, same_next}
use Rattle.chunk_store.proofs.segments.Segment.place_before.Goals as goal

pub loop-at-preserved : goal.loop-at-preserved
loop-at-preserved c =
    let here = c.chunk.result in
    let there = c.chunk-in-loop-at.result in
    let address : here.0.0 ≡ there.0.0 = same_at here.0.0 there.0.0 c.ne.result c.ne.ensures c.if-ne.false in
    let bytes : here.1.now ≡ there.1.now = same_at here.1.now there.1.now c.ne-in-loop-at.result c.ne-in-loop-at.ensures c.if-ne-2.false in
    same_next c.args.self.now c.args.other.now (c.args.end - c.len-count.result) c.loop-at.at (here.0.0, here.1.now) (there.0.0, there.1.now) c.chunk.ensures.chunk
    c.chunk-in-loop-at.ensures.chunk (pair_same here.0.0 there.0.0 here.1.now there.1.now address bytes) c.loop-at.invariant
