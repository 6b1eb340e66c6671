use Rattle.std.proofs.Common.{List, [], ◌∷◌, ◌++◌, ap, sym, ◌∙◌}
use Rattle.tuple_codec.proofs.Lists.{take_at_get as take_next}
use Rattle.chunk_store.specs.Chunks.{Chunk}
use Rattle.chunk_store.specs.Drafts.{DraftParts}
use Rattle.chunk_store.proofs.drafts.Draft.copy_into.Goals as goal

pub loop-at-preserved : goal.loop-at-preserved
loop-at-preserved g c =
    let k = c.own_chunk.result.0.0 in
    let bytes = c.own_chunk.result.1.now in
    record {
      base = ap (λ (d : DraftParts). d.base) c.in_ok-add.ensures.ok ∙ c.loop-at.invariant.base;
      segments = c.add.ensures.segments ∙ c.loop-at.invariant.segments;
      own = ap (λ (d : DraftParts). d.own) c.in_ok-add.ensures.ok ∙ ap (λ (l : List Chunk). l ++ (k, bytes) ∷ []) c.loop-at.invariant.own
          ∙ sym (take_next c.args.self.now.chunks.own c.loop-at.at (k, bytes) c.own_chunk.ensures.chunk);
    }
