use Rattle.std.proofs.Common.{subst, sym, ap, List}
use Rattle.chunk_store.specs.Chunks.{Chunk, Agree, chunk_bytes}
use Rattle.chunk_store.specs.Drafts.{Drafting}
use Rattle.chunk_store.specs.Placing.{chunks_in}
use Rattle.chunk_store.proofs.ChunkLemmas.{single_join, single_right}
use Rattle.chunk_store.specs.Stores.{all_chunks}
use Rattle.chunk_store.proofs.drafts.Draft.rebase.Goals as goal

pub invariant_of-self : goal.invariant_of-self
invariant_of-self g c =
    let own = chunks_in c.self.inside.region.pages c.self.inside.index.placed in
    let store = all_chunks c.args.store in
    let P : List Chunk → Type 0 = λ l. Agree (chunk_bytes store) (chunk_bytes l) in
    let over = c.self.invariant in
    record {
      all_written = over.all_written;
      in_order = over.in_order;
      named = over.named;
      fit = over.fit;
      marked = over.marked;
      laid = over.laid;
      single = single_join store own c.fits.ensures.single (single_right (all_chunks c.self.inside.base) own over.single)
          (subst P (sym (ap (λ (d : Drafting). d.chunks.own) c.self.view_is)) c.in_ok-fits.ensures.agree);
    }
