use Rattle.chunk_store.specs.Placing.{chunks_in}
use Rattle.chunk_store.specs.Stores.{all_chunks}
use Rattle.chunk_store.proofs.ChunkLemmas.{single_right}
use Rattle.chunk_store.proofs.drafts.Draft.own_segment.Goals as goal

pub of-requires : goal.of-requires
of-requires g c =
    let over = c.self.invariant in
    record {
      all_written = over.all_written;
      fit = over.fit;
      single = single_right (all_chunks c.self.inside.base) (chunks_in c.self.inside.region.pages c.self.inside.index.placed) over.single;
    }
