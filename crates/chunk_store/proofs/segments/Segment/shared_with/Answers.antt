use Rattle.std.proofs.Common.{◌≡◌, ◌<◌, ◌+◌, ◌^◌, ◌++◌, ℕ, List, length, map, ap, sym, subst, ◌∙◌, arith}
use Rattle.std.proofs.lemmas.List.{length-append}
use Rattle.chunk_region.specs.Pages.{Pages}
use Rattle.chunk_store.specs.declared.index.Placed.{Placed}
use Rattle.chunk_store.specs.Building.{gather}
use Rattle.chunk_store.specs.Chunks.{Chunk}
use Rattle.chunk_store.specs.Placing.{ArePlaced, chunks_in, gather_placed, placed_behind}
use Rattle.chunk_store.proofs.BuildLemmas.{joined_is, joined_placed, pages_within}
use Rattle.chunk_store.proofs.segments.Segment.shared_with.Goals as goal

pub join-requires : goal.join-requires
join-requires c =
    let xs = c.self.inside.sealed in
    let ys = c.other.inside.sealed in
    let both = ap length c.in_ok-sealed.ensures.pages in
    let sum = length-append xs ys in
    let few = c.in_ok-sealed.ensures.few in
    let count = c.pages-pages.ensures in
    let within : c.pages-pages.result + length ys < 2 ^ 32 = omega arith in
    pages_within ys c.other.inside.index.placed c.pages-pages.result (2 ^ 32) c.other.invariant.all_written within

pub invariant_of-result : goal.invariant_of-result
invariant_of-result c =
    let xs = c.self.inside.sealed in
    let ys = c.other.inside.sealed in
    let cs = c.self.inside.index.placed in
    let ds = c.other.inside.index.placed in
    let P : List Placed → Type 0 = λ l. ArePlaced c.in_ok-sealed.sealed l in
    let Q : Pages → Type 0 = λ p. ArePlaced p (gather_placed cs (map (placed_behind c.pages-pages.result) ds)) in
    let R : ℕ → Type 0 = λ n. ArePlaced (xs ++ ys) (gather_placed cs (map (placed_behind n) ds)) in
    subst P (sym c.in_ok-join.ensures) (subst Q (sym c.in_ok-sealed.ensures.pages) (subst R (sym c.pages-pages.ensures) (joined_placed xs ys cs ds c.self.invariant c.other.invariant)))

pub returns : goal.returns
returns c =
    let xs = c.self.inside.sealed in
    let ys = c.other.inside.sealed in
    let cs = c.self.inside.index.placed in
    let ds = c.other.inside.index.placed in
    ap (chunks_in c.in_ok-sealed.sealed) c.in_ok-join.ensures
    ∙ ap (λ (p : Pages). chunks_in p (gather_placed cs (map (placed_behind c.pages-pages.result) ds))) c.in_ok-sealed.ensures.pages
    ∙ ap (λ (n : ℕ). chunks_in (xs ++ ys) (gather_placed cs (map (placed_behind n) ds))) c.pages-pages.ensures
    ∙ joined_is xs ys cs ds c.self.invariant.all_written
    ∙ ap (λ (l : List Chunk). gather l (chunks_in ys ds)) c.self.view_is
    ∙ ap (gather c.args.self) c.other.view_is
