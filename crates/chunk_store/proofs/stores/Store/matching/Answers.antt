use Rattle.std.proofs.Common.{◌≡◌, ◌<◌, ◌+◌, ◌-◌, List, length, get_or, ap, ◌∙◌, arith}
use Rattle.chunk_store.specs.Chunks.{Chunk}
use Rattle.chunk_store.specs.Stores.{Stored}
use Rattle.chunk_store.proofs.JoinLemmas.{segment_at}
use Rattle.chunk_store.proofs.MatchLemmas.{matched_next}
use Rattle.chunk_store.proofs.stores.Store.matching.Goals as goal

pub segments-preserved : goal.segments-preserved
segments-preserved c =
    let at = c.segments.from in
    let before = at - 1 in
    let segments = c.args.self.now.segments in
    let items = c.self.inside.segments.items in
    let s = c.index-deref-from.result in
    let seen = ap (λ (st : Stored). length st.segments) c.self.view_is in
    let test = c.segments-test.true in
    let most = c.segments.invariant.from_within in
    let within : before < length items = omega arith in
    let plus : before + 1 ≡ at = omega arith in
    let here = segment_at items segments before s (ap (λ (st : Stored). st.segments) c.self.view_is) within
    (c.index-deref-from.is ∙ ap (λ (l : List (List Chunk)). get_or l before s) c.deref.ensures) in
    matched_next c.args.other.now segments before at c.segments.own c.in-Some.start s plus here c.in-Some.ensures.same c.in-Some.ensures.before c.segments.invariant
