use Rattle.std.proofs.Common.{◌≡◌, List, length, drop, subst, sym, ap, ◌∙◌}
use Rattle.std.specs.Arc.{arc_value}
use Rattle.std.proofs.lemmas.List.{length-map}
use Rattle.chunk_store.specs.Placing.{chunk_of, chunks_in}
use Rattle.chunk_store.specs.Chunks.{Chunk}
use Rattle.chunk_store.specs.Building.{gather}
use Rattle.chunk_store.specs.Drafts.{Drafting}
use Rattle.chunk_store.specs.Stores.{IsSealed, all_chunks, joined, joins}
use Rattle.chunk_store.proofs.ChunkLemmas.{single_right}
use Rattle.chunk_store.proofs.JoinLemmas.{sealed_is}
use Rattle.chunk_store.proofs.drafts.Draft.gathered.Goals as goal

pub of-requires : goal.of-requires
of-requires g c =
    let over = c.self.invariant in
    record {
      all_written = over.all_written;
      fit = over.fit;
      single = single_right (all_chunks c.self.inside.base) (chunks_in c.self.inside.region.pages c.self.inside.index.placed) over.single;
    }

pub returns : goal.returns
returns g c =
    let pages = c.self.inside.region.pages in
    let cs = c.self.inside.index.placed in
    let own = chunks_in pages cs in
    let segments = c.self.inside.base.segments in
    let count : c.len.result ≡ length own = c.len.ensures ∙ sym (length-map cs (chunk_of pages)) in
    let whole = c.in_ok-whole.ensures ∙ ap (λ (l : List Chunk). gather l (joined (drop c.joined_from-from.result segments))) c.in_ok-own.ensures
    ∙ ap (λ (l : List (List Chunk)). gather own (joined l)) (c.joined_from-from.ensures.from ∙ ap (λ n. joins n segments) count) in
    let P : Drafting → Type 0 = λ d. IsSealed d.segments d.chunks.own (arc_value c.in_ok-new.field-0) in
    let Q : List Chunk → Type 0 = IsSealed segments own in
    subst P c.self.view_is (subst Q (sym (c.in_ok-new.ensures.ok ∙ whole)) (sealed_is segments own c.self.invariant.single))
