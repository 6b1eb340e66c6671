use Rattle.std.proofs.Common.{◌≡◌, ℕ, List, Some, take, subst, sym, ◌∙◌}
use Rattle.tuple_codec.proofs.Lists.{take_at_get as take_next}
use Rattle.chunk_store.specs.Chunks.{Chunk, Agree, chunk_bytes}
use Rattle.chunk_store.proofs.ChunkLemmas.{agree_push}
use Rattle.chunk_store.proofs.ClashLemmas.{allowed_from}
use Rattle.chunk_store.specs.Stores.{all_chunks}
use Rattle.chunk_store.proofs.drafts.Draft.fits.Goals as goal

pub loop-at-preserved : goal.loop-at-preserved
loop-at-preserved g c =
    let store = chunk_bytes (all_chunks c.args.store.now) in
    let own = c.args.self.now.chunks.own in
    let P : List Chunk → Type 0 = λ l. Agree store (chunk_bytes l) in
    let k = c.own_chunk.result.0.0 in
    let bytes = c.own_chunk.result.1.now in
    let here = λ (others : List ℕ) (held : store k ≡ Some others). allowed_from c.in_ok-is_there.field-0 _ bytes others c.in_ok-is_there.ensures.there (c.get.ensures.held ∙ held) in
    subst P (sym (take_next own c.loop-at.at (k, bytes) c.own_chunk.ensures.chunk))
    (agree_push store (take c.loop-at.at own) k bytes c.loop-at.invariant here)
