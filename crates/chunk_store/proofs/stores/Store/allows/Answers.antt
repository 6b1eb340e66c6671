use Rattle.std.proofs.Common.{◌≡◌, ℕ, List, Some, take, subst, sym, ◌∙◌, arith}
use Rattle.tuple_codec.proofs.Lists.{take_at_get as take_next}
use Rattle.chunk_store.specs.Chunks.{Chunk, Agree, chunk_bytes}
use Rattle.chunk_store.proofs.ChunkLemmas.{agree_push}
use Rattle.chunk_store.proofs.ClashLemmas.{allowed_from}
use Rattle.chunk_store.proofs.MatchLemmas.{agree_matched}
use Rattle.chunk_store.specs.Stores.{all_chunks}
use Rattle.chunk_store.proofs.stores.Store.allows.Goals as goal

pub loop-at-preserved : goal.loop-at-preserved
loop-at-preserved c =
    let store = chunk_bytes (all_chunks c.args.self.now) in
    let P : List Chunk → Type 0 = λ l. Agree store (chunk_bytes l) in
    let k = c.chunk.result.0.0 in
    let bytes = c.chunk.result.1.now in
    let here = λ (others : List ℕ) (held : store k ≡ Some others). allowed_from c.in_ok-is_there.field-0 _ bytes others c.in_ok-is_there.ensures.there (c.get.ensures.held ∙ held) in
    subst P (sym (take_next c.args.segment.now c.loop-at.at (k, bytes) c.chunk.ensures.chunk))
    (agree_push store (take c.loop-at.at c.args.segment.now) k bytes c.loop-at.invariant here)

pub returns-clause-agree : goal.returns-clause-agree
returns-clause-agree c =
    let segment = c.args.segment.now in
    let own = c.args.matched.own in
    let end = c.loop-at.auto.at-end in
    let test = c.loop-at-test.false in
    let all : c.loop-at.at ≡ own = omega arith in
    let P : ℕ → Type 0 = λ n. Agree (chunk_bytes (all_chunks c.args.self.now)) (chunk_bytes (take n segment)) in
    agree_matched segment c.args.self.now.segments own c.args.matched.from c.requires c.tell.ensures.single (subst P all c.loop-at.invariant)
