use Rattle.std.proofs.Common.{◌≡◌, ℕ, ◌<◌, ◌+◌, ◌-◌, None, List, length, get_or, drop, ap, ◌∙◌, sym, subst, arith}
use Rattle.chunk_store.specs.Chunks.{Chunk, IsSingle, chunk_bytes}
use Rattle.chunk_store.specs.Stores.{Stored, joined}
use Rattle.chunk_store.proofs.JoinLemmas.{held_behind, none_behind, segment_at, segment_next}
use Rattle.chunk_store.proofs.stores.Store.get.Goals as goal

pub returns-in-Some-clause-held : goal.returns-in-Some-clause-held
returns-in-Some-clause-held c =
    let at = c.segments.at in
    let before = at - 1 in
    let segments = c.args.self.now.segments in
    let items = c.self.inside.segments.items in
    let s = c.index-segments-at.result in
    let k = c.args.address.now.0 in
    let seen = ap (λ (st : Stored). length st.segments) c.self.view_is in
    let test = c.segments-test.true in
    let most = c.segments.invariant.most in
    let within : before < length items = omega arith in
    let plus : before + 1 ≡ at = omega arith in
    let here = segment_at items segments before s (ap (λ (st : Stored). st.segments) c.self.view_is) within
    (c.index-segments-at.is ∙ ap (λ (l : List (List Chunk)). get_or l before s) c.as_slice-segments.ensures) in
    let single = subst (λ (st : Stored). IsSingle (joined st.segments)) c.self.view_is c.self.invariant.0 in
    sym (held_behind segments before at s k c.in-Some.bytes.now (segment_next segments before at s plus here) single (sym c.in-Some.ensures))

pub segments-preserved : goal.segments-preserved
segments-preserved c =
    let at = c.segments.at in
    let before = at - 1 in
    let segments = c.args.self.now.segments in
    let items = c.self.inside.segments.items in
    let s = c.index-segments-at.result in
    let k = c.args.address.now.0 in
    let seen = ap (λ (st : Stored). length st.segments) c.self.view_is in
    let test = c.segments-test.true in
    let most = c.segments.invariant.most in
    let within : before < length items = omega arith in
    let plus : before + 1 ≡ at = omega arith in
    let here = segment_at items segments before s (ap (λ (st : Stored). st.segments) c.self.view_is) within
    (c.index-segments-at.is ∙ ap (λ (l : List (List Chunk)). get_or l before s) c.as_slice-segments.ensures) in
    record {
      behind = none_behind segments before at s k (segment_next segments before at s plus here) (sym c.in_default.ensures) c.segments.invariant.behind;
      most = omega arith;
    }

pub returns-clause-held : goal.returns-clause-held
returns-clause-held c =
    let test = c.segments-test.false in
    let none : c.segments.at ≡ 0 = omega arith in
    sym (subst (λ (n : ℕ). chunk_bytes (joined (drop n c.args.self.now.segments)) c.args.address.now.0 ≡ None) none c.segments.invariant.behind)
