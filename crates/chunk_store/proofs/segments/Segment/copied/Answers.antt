use Rattle.std.proofs.Common.{◌≡◌, List, [], ◌∷◌, ◌++◌, None, ap, sym, subst, ◌∙◌}
use Rattle.tuple_codec.proofs.Lists.{take_at_get as take_next}
use Rattle.chunk_store.specs.declared.index.Placed.{Placed}
use Rattle.chunk_store.specs.Chunks.{Chunk, chunk_bytes}
use Rattle.chunk_store.specs.Placing.{ArePlaced, chunks_in, span_at, written}
use Rattle.chunk_store.proofs.BuildLemmas.{placed_push}
use Rattle.chunk_store.proofs.PlacingLemmas.{absent_span, all_stay, chunks_push, found_at}
use Rattle.chunk_store.proofs.segments.Segment.copied.Goals as goal

pub push-requires-clause-absent : goal.push-requires-clause-absent
push-requires-clause-absent c =
    let pages = c.loop-at.region.pages in
    let cs = c.loop-at.index.placed in
    let k = c.chunk.result.0.0 in
    ap (λ l. span_at l k) c.make_room.ensures.same
    ∙ absent_span (written pages) (span_at cs k) (sym (found_at pages cs k) ∙ ap (λ (l : List Chunk). chunk_bytes l k) c.loop-at.invariant.done ∙ c.chunk.ensures.apart)

pub loop-at-preserved : goal.loop-at-preserved
loop-at-preserved c =
    let pages = c.loop-at.region.pages in
    let after = c.place.new.self.pages in
    let cs = c.loop-at.index.placed in
    let k = c.chunk.result.0.0 in
    let bytes = c.chunk.result.1.now in
    let one : Placed = record { address = c.chunk.result.0; span = c.in_ok-span.span; before = c.mark-before.result } in
    let is = c.push.ensures ∙ ap (λ (l : List Placed). l ++ one ∷ []) c.make_room.ensures.same in
    let absent : span_at cs k ≡ None =
    absent_span (written pages) (span_at cs k) (sym (found_at pages cs k) ∙ ap (λ (l : List Chunk). chunk_bytes l k) c.loop-at.invariant.done ∙ c.chunk.ensures.apart)
    in
    record {
      placed = subst (ArePlaced after) (sym is) (placed_push pages after cs one bytes c.loop-at.invariant.placed c.place.ensures.keeps c.in_ok-span.ensures.stands c.chunk.ensures.size absent);
      done = ap (chunks_in after) is ∙ chunks_push pages after cs one bytes c.loop-at.invariant.placed.all_written (all_stay pages after cs c.place.ensures.keeps) c.in_ok-span.ensures.stands
          ∙ ap (λ (l : List Chunk). l ++ (k, bytes) ∷ []) c.loop-at.invariant.done
          ∙ sym (take_next c.args.self.now c.loop-at.at (k, bytes) c.chunk.ensures.chunk);
    }
