use Rattle.std.proofs.Common.{◌≡◌, ◌<◌, ◌≤◌, ◌+◌, ◌-◌, ◌*◌, ℕ, nat_lt, Bool, true, false, cond, min, List, length, get_or, drop, subst, ap, ◌∙◌, arith}
use Rattle.chunk_store.specs.Chunks.{Chunk}
use Rattle.chunk_store.specs.Stores.{Stored, joined}
use Rattle.chunk_store.proofs.JoinLemmas.{joins_next, segment_at, segment_next, size_next}
use Rattle.chunk_store.proofs.stores.Store.joined_from.Goals as goal

after_step : (M more j s a size r total : ℕ) → a ≡ min (more + j) M → r ≡ min (a + size) M → size ≡ s → total ≡ s + j → r ≡ min (more + total) M
after_step M more j s a size r total is sum same count = omega arith

within_case : (t : Bool) (before from most result : ℕ) → result ≡ cond t before from → before ≤ most → from ≤ most → result ≤ most
within_case true before from most result is one two = omega arith
within_case false before from most result is one two = omega arith

pub segments-preserved : goal.segments-preserved
segments-preserved c =
    let at = c.segments.at in
    let before = at - 1 in
    let segments = c.args.self.now.segments in
    let items = c.self.inside.segments.items in
    let s = c.index-deref-at.result in
    let seen = ap (λ (st : Stored). length st.segments) c.self.view_is in
    let test = c.segments-test.true in
    let most = c.segments.invariant.most in
    let size = c.len-size.ensures in
    let within : before < length items = omega arith in
    let plus : before + 1 ≡ at = omega arith in
    let here = segment_at items segments before s (ap (λ (st : Stored). st.segments) c.self.view_is) within
    (c.index-deref-at.is ∙ ap (λ (l : List (List Chunk)). get_or l before s) c.deref.ensures) in
    let next = segment_next segments before at s plus here in
    let more = size_next segments before at s next in
    let whole = c.args.more + length (joined (drop at segments)) in
    let few = c.is_few.ensures whole c.segments.invariant.after in
    let sum = c.saturating_add-after.ensures in
    let after = c.segments.invariant.after in
    let P : ℕ → Type 0 = λ n. c.is_few.result ≡ nat_lt n (2 * whole) in
    record {
      from = joins_next c.args.more segments before at c.segments.from c.earlier-from.result s c.is_few.result next (subst P size few) c.earlier-from.ensures
          c.segments.invariant.from;
      after = after_step 18446744073709551615 c.args.more (length (joined (drop at segments))) (length s) c.segments.after c.len-size.result c.saturating_add-after.result
          (length (joined (drop before segments))) after sum size more;
      most = omega arith;
      within = within_case c.is_few.result before c.segments.from (length segments) c.earlier-from.result c.earlier-from.ensures (omega arith) c.segments.invariant.within;
    }
