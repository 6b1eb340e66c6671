use Rattle.std.proofs.Common.{◌≡◌, ◌<◌, ◌+◌, ◌-◌, List, length, get_or, take, sym, ap, ◌∙◌, arith}
use Rattle.chunk_store.specs.Chunks.{Chunk}
use Rattle.chunk_store.specs.Stores.{Stored, drop_held}
use Rattle.chunk_store.proofs.JoinLemmas.{drop_last_held, drop_last_kept, segment_at, take_segment}
use Rattle.chunk_store.proofs.MatchLemmas.{held_matched}
use Rattle.chunk_store.proofs.stores.Store.kept.Goals as goal

pub returns-then-not-is_within-clause-kept : goal.returns-then-not-is_within-clause-kept
returns-then-not-is_within-clause-kept c =
    let at = c.segments.kept in
    let before = at - 1 in
    let segments = c.args.self.now.segments in
    let items = c.self.inside.segments.items in
    let s = c.index-deref-kept.result in
    let other = c.args.other.now in
    let seen = ap (λ (st : Stored). length st.segments) c.self.view_is in
    let test = c.segments-test.true in
    let most = c.segments.invariant.most in
    let within : before < length items = omega arith in
    let plus : before + 1 ≡ at = omega arith in
    let here = segment_at items segments before s (ap (λ (st : Stored). st.segments) c.self.view_is) within
    (c.index-deref-kept.is ∙ ap (λ (l : List (List Chunk)). get_or l before s) c.deref.ensures) in
    let taken = take_segment segments before at s plus here in
    taken ∙ sym (drop_last_kept other (take before segments) s (sym c.is_within.ensures ∙ c.if-not-is_within.true)) ∙ ap (drop_held other) (sym taken)
    ∙ c.segments.invariant.held

pub segments-preserved : goal.segments-preserved
segments-preserved c =
    let at = c.segments.kept in
    let before = at - 1 in
    let segments = c.args.self.now.segments in
    let items = c.self.inside.segments.items in
    let s = c.index-deref-kept.result in
    let other = c.args.other.now in
    let seen = ap (λ (st : Stored). length st.segments) c.self.view_is in
    let test = c.segments-test.true in
    let most = c.segments.invariant.most in
    let within : before < length items = omega arith in
    let plus : before + 1 ≡ at = omega arith in
    let here = segment_at items segments before s (ap (λ (st : Stored). st.segments) c.self.view_is) within
    (c.index-deref-kept.is ∙ ap (λ (l : List (List Chunk)). get_or l before s) c.deref.ensures) in
    let taken = take_segment segments before at s plus here in
    record {
      held = sym (ap (drop_held other) taken ∙ drop_last_held other (take before segments) s (sym c.is_within.ensures ∙ c.if-not-is_within.false)) ∙ c.segments.invariant.held;
      most = omega arith;
    }

pub segments-init : goal.segments-init
segments-init c = record {
  held = held_matched c.args.other.now c.args.self.now.segments c.args.matched.own c.args.matched.from c.requires;
  most = c.requires.from_within;
}
