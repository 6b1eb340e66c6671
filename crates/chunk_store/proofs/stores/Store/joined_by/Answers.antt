use Rattle.std.proofs.Common.{◌≡◌, ◌<◌, ◌+◌, List, length, get_or, drop, ap, ◌∙◌, arith}
use Rattle.chunk_store.specs.Building.{gather}
use Rattle.chunk_store.specs.Chunks.{Chunk}
use Rattle.chunk_store.specs.Stores.{Stored, joined}
use Rattle.chunk_store.proofs.JoinLemmas.{gather_segment, segment_at}
use Rattle.chunk_store.proofs.stores.Store.joined_by.Goals as goal

pub loop-at-preserved : goal.loop-at-preserved
loop-at-preserved c =
    let at = c.loop-at.at in
    let segments = c.args.self.now.segments in
    let items = c.self.inside.segments.items in
    let test = c.loop-at-test.true in
    let end = c.len-at-end.ensures.value in
    let within : at < length items = omega arith in
    let here = segment_at items segments at c.index-deref-at.result (ap (λ (s : Stored). s.segments) c.self.view_is) within
    (c.index-deref-at.is ∙ ap (λ (l : List (List Chunk)). get_or l at c.index-deref-at.result) c.deref.ensures) in
    ap (λ (l : List Chunk). gather l (joined (drop (at + 1) segments))) c.in_ok-whole.ensures
    ∙ gather_segment c.loop-at.whole segments at c.index-deref-at.result here ∙ c.loop-at.invariant
