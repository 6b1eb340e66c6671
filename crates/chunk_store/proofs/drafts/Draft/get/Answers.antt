use Rattle.std.proofs.Common.{Some, ap, sym, ◌∙◌, option_map}
use Rattle.chunk_store.specs.Drafts.{Drafting, chunks_of}
use Rattle.chunk_store.specs.Placing.{chunks_in, written}
use Rattle.chunk_store.proofs.ChunkLemmas.{left_first, right_else}
use Rattle.chunk_store.proofs.PlacingLemmas.{found_at, found_written, written_is}
use Rattle.chunk_store.specs.Stores.{all_chunks}
use Rattle.chunk_store.proofs.drafts.Draft.get.Goals as goal

pub returns-in-Some : goal.returns-in-Some
returns-in-Some g c =
    let own = chunks_in c.self.inside.region.pages c.self.inside.index.placed in
    let k = c.args.address.now.0 in
    sym (left_first (all_chunks c.self.inside.base) own k c.in-Some.bytes.now (sym c.in-Some.ensures.held))
    ∙ ap (λ (d : Drafting). chunks_of d.chunks k) c.self.view_is

pub bytes-requires : goal.bytes-requires
bytes-requires g c =
    found_written c.self.inside.region.pages c.self.inside.index.placed c.args.address.now.0 c.in-Some-find.span c.self.invariant.all_written (sym c.in-Some-find.ensures)

pub returns-in-Some-find : goal.returns-in-Some-find
returns-in-Some-find g c =
    let pages = c.self.inside.region.pages in
    let cs = c.self.inside.index.placed in
    let k = c.args.address.now.0 in
    ap Some (sym (written_is pages c.in-Some-find.span c.bytes.result.now c.bytes.ensures))
    ∙ ap (option_map (written pages)) c.in-Some-find.ensures ∙ sym (found_at pages cs k)
    ∙ sym (right_else (all_chunks c.self.inside.base) (chunks_in pages cs) k (sym c.in_default.ensures.held))
    ∙ ap (λ (d : Drafting). chunks_of d.chunks k) c.self.view_is

pub returns-in-None : goal.returns-in-None
returns-in-None g c =
    let pages = c.self.inside.region.pages in
    let cs = c.self.inside.index.placed in
    let k = c.args.address.now.0 in
    ap (option_map (written pages)) c.in-None.ensures ∙ sym (found_at pages cs k)
    ∙ sym (right_else (all_chunks c.self.inside.base) (chunks_in pages cs) k (sym c.in_default.ensures.held))
    ∙ ap (λ (d : Drafting). chunks_of d.chunks k) c.self.view_is
