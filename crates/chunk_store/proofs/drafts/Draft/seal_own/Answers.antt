use Rattle.std.proofs.Common.{List, sym, subst}
use Rattle.chunk_store.specs.Chunks.{Chunk}
use Rattle.chunk_store.specs.Stores.{IsBrought, joined}
use Rattle.chunk_store.proofs.ChunkLemmas.{listed_right}
use Rattle.chunk_store.proofs.drafts.Draft.seal_own.Goals as goal

pub returns-in-Ok-clause-brought : goal.returns-in-Ok-clause-brought
returns-in-Ok-clause-brought g c =
    let segments = c.args.self.segments in
    let own = c.args.self.chunks.own in
    subst (λ (l : List Chunk). IsBrought segments own l) (sym c.in-Ok.ensures)
    record { all = λ k bytes listed. listed; only = λ k bytes listed. listed_right (joined segments) own k bytes listed }
