use Rattle.std.proofs.Common.{◌≡◌, ◌≤◌, length, subst, List, None, Some, slice_get, take}
use Rattle.tuple_codec.proofs.Lists.{have_at as all_get}
use Rattle.chunk_region.specs.Pages.{IsWritten}
use Rattle.chunk_store.specs.declared.index.Placed.{Placed}
use Rattle.chunk_store.specs.Chunks.{Chunk, chunk_bytes}
use Rattle.chunk_store.specs.Placing.{chunks_in}
use Rattle.chunk_store.proofs.PlacingLemmas.{chunk_get, chunk_found, first_get}
use Rattle.chunk_store.proofs.segments.Segment.chunk.Goals as goal

pub bytes-requires : goal.bytes-requires
bytes-requires c =
    all_get (λ (x : Placed). IsWritten c.self.inside.sealed x.span) c.self.inside.index.placed c.args.at c.at-placed.result c.self.invariant.all_written c.at-placed.ensures.at

pub returns-clause-chunk : goal.returns-clause-chunk
returns-clause-chunk c =
    let P : List Chunk → Type 0 = λ l. slice_get l c.args.at ≡ Some (c.at-placed.result.address.0, c.bytes.result.now) in
    subst P c.self.view_is (chunk_get c.self.inside.sealed c.self.inside.index.placed c.args.at c.at-placed.result c.bytes.result.now c.at-placed.ensures.at c.bytes.ensures)

pub returns-clause-found : goal.returns-clause-found
returns-clause-found c =
    let P : List Chunk → Type 0 = λ l. chunk_bytes l c.at-placed.result.address.0 ≡ Some c.bytes.result.now in
    subst P c.self.view_is (chunk_found c.self.inside.sealed c.self.inside.index.placed c.args.at c.at-placed.result c.bytes.result.now c.self.invariant.single c.at-placed.ensures.at c.bytes.ensures)

pub returns-clause-size : goal.returns-clause-size
returns-clause-size c =
    all_get (λ (x : Chunk). length x.1 ≤ 65536) (chunks_in c.self.inside.sealed c.self.inside.index.placed) c.args.at (c.at-placed.result.address.0, c.bytes.result.now)
    c.self.invariant.fit (chunk_get c.self.inside.sealed c.self.inside.index.placed c.args.at c.at-placed.result c.bytes.result.now c.at-placed.ensures.at c.bytes.ensures)

pub returns-clause-apart : goal.returns-clause-apart
returns-clause-apart c =
    let k = c.at-placed.result.address.0 in
    subst (λ (l : List Chunk). chunk_bytes (take c.args.at l) k ≡ None) c.self.view_is
    (first_get c.self.inside.sealed c.self.inside.index.placed c.args.at c.at-placed.result c.at-placed.ensures.apart c.at-placed.ensures.at)
