use Rattle.std.proofs.Common.{◌≡◌, ◌≤◌, length, take, subst, ap, List, Some, None, slice_get}
use Rattle.tuple_codec.proofs.Lists.{have_at as all_get}
use Rattle.chunk_region.specs.Pages.{IsWritten}
use Rattle.chunk_store.specs.declared.index.Placed.{Placed}
use Rattle.chunk_store.specs.Chunks.{Chunk, chunk_bytes}
use Rattle.chunk_store.specs.Drafts.{Drafting}
use Rattle.chunk_store.specs.Placing.{chunks_in}
use Rattle.chunk_store.proofs.ChunkLemmas.{named_at, single_right}
use Rattle.chunk_store.proofs.PlacingLemmas.{chunk_get, chunk_found, first_get}
use Rattle.chunk_store.specs.Stores.{all_chunks}
use Rattle.chunk_store.proofs.drafts.Draft.own_chunk.Goals as goal

pub bytes-requires : goal.bytes-requires
bytes-requires g c =
    all_get (λ (x : Placed). IsWritten c.self.inside.region.pages x.span) c.self.inside.index.placed c.args.at c.at-placed.result c.self.invariant.all_written c.at-placed.ensures.at

pub returns-clause-chunk : goal.returns-clause-chunk
returns-clause-chunk g c =
    let P : List Chunk → Type 0 = λ l. slice_get l c.args.at ≡ Some (c.at-placed.result.address.0, c.bytes.result.now) in
    subst P (ap (λ (d : Drafting). d.chunks.own) c.self.view_is)
    (chunk_get c.self.inside.region.pages c.self.inside.index.placed c.args.at c.at-placed.result c.bytes.result.now c.at-placed.ensures.at c.bytes.ensures)

pub returns-clause-found : goal.returns-clause-found
returns-clause-found g c =
    let P : List Chunk → Type 0 = λ l. chunk_bytes l c.at-placed.result.address.0 ≡ Some c.bytes.result.now in
    let own = chunks_in c.self.inside.region.pages c.self.inside.index.placed in
    subst P (ap (λ (d : Drafting). d.chunks.own) c.self.view_is)
    (chunk_found c.self.inside.region.pages c.self.inside.index.placed c.args.at c.at-placed.result c.bytes.result.now
    (single_right (all_chunks c.self.inside.base) own c.self.invariant.single) c.at-placed.ensures.at c.bytes.ensures)

pub returns-clause-size : goal.returns-clause-size
returns-clause-size g c =
    all_get (λ (x : Chunk). length x.1 ≤ 65536) (chunks_in c.self.inside.region.pages c.self.inside.index.placed) c.args.at (c.at-placed.result.address.0, c.bytes.result.now)
    c.self.invariant.fit
    (chunk_get c.self.inside.region.pages c.self.inside.index.placed c.args.at c.at-placed.result c.bytes.result.now c.at-placed.ensures.at c.bytes.ensures)

pub returns-clause-named : goal.returns-clause-named
returns-clause-named g c =
    named_at g.D.Digester.address (chunks_in c.self.inside.region.pages c.self.inside.index.placed) c.args.at c.at-placed.result.address.0 c.bytes.result.now
    c.self.invariant.named
    (chunk_get c.self.inside.region.pages c.self.inside.index.placed c.args.at c.at-placed.result c.bytes.result.now c.at-placed.ensures.at c.bytes.ensures)

pub returns-clause-first : goal.returns-clause-first
returns-clause-first g c =
    let P : List Chunk → Type 0 = λ l. chunk_bytes (take c.args.at l) c.at-placed.result.address.0 ≡ None in
    subst P (ap (λ (d : Drafting). d.chunks.own) c.self.view_is)
    (first_get c.self.inside.region.pages c.self.inside.index.placed c.args.at c.at-placed.result c.at-placed.ensures.apart c.at-placed.ensures.at)
