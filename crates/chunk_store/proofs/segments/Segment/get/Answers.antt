use Rattle.std.proofs.Common.{sym, ap, ◌∙◌, List, Some, option_map}
use Rattle.chunk_store.specs.Chunks.{Chunk, chunk_bytes}
use Rattle.chunk_store.specs.Placing.{written}
use Rattle.chunk_store.proofs.PlacingLemmas.{found_at, found_written, written_is}
use Rattle.chunk_store.proofs.segments.Segment.get.Goals as goal

pub bytes-requires : goal.bytes-requires
bytes-requires c =
    found_written c.self.inside.sealed c.self.inside.index.placed c.args.address.now.0 c.in-Some.span c.self.invariant.all_written (sym c.in-Some.ensures)

pub returns-in-Some : goal.returns-in-Some
returns-in-Some c =
    let pages = c.self.inside.sealed in
    let cs = c.self.inside.index.placed in
    let k = c.args.address.now.0 in
    ap Some (sym (written_is pages c.in-Some.span c.bytes.result.now c.bytes.ensures))
    ∙ ap (option_map (written pages)) c.in-Some.ensures ∙ sym (found_at pages cs k)
    ∙ ap (λ (l : List Chunk). chunk_bytes l k) c.self.view_is

pub returns-in-None : goal.returns-in-None
returns-in-None c =
    let pages = c.self.inside.sealed in
    let cs = c.self.inside.index.placed in
    let k = c.args.address.now.0 in
    ap (option_map (written pages)) c.in-None.ensures ∙ sym (found_at pages cs k) ∙ ap (λ (l : List Chunk). chunk_bytes l k) c.self.view_is
