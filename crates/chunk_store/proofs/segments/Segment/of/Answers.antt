use Rattle.std.proofs.Common.{List, ap, sym, subst, ◌∙◌}
use Rattle.chunk_region.specs.Pages.{Pages}
use Rattle.chunk_store.specs.declared.index.Placed.{Placed}
use Rattle.chunk_store.specs.Placing.{ArePlaced, chunks_in}
use Rattle.chunk_store.proofs.segments.Segment.of.Goals as goal

pub invariant_of-result : goal.invariant_of-result
invariant_of-result c =
    let P : List Placed → Type 0 = λ l. ArePlaced c.in_ok-sealed.sealed l in
    let Q : Pages → Type 0 = λ p. ArePlaced p c.args.index.now.placed in
    subst P (sym c.in_ok-index.ensures) (subst Q (sym c.in_ok-sealed.ensures) c.requires)
