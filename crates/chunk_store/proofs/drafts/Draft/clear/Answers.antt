use Rattle.std.proofs.Common.{List, ap, subst, sym}
use Rattle.chunk_store.specs.declared.index.Placed.{Placed}
use Rattle.chunk_store.specs.Drafts.{Drafting}
use Rattle.chunk_store.specs.Placing.{chunks_in, AreOver}
use Rattle.chunk_store.specs.Stores.{all_chunks}
use Rattle.chunk_store.proofs.DraftLemmas.{over_none, same_parts}
use Rattle.chunk_store.proofs.drafts.Draft.clear.Goals as goal

pub invariant_of-self : goal.invariant_of-self
invariant_of-self g c =
    let P : List Placed → Type 0 = λ l. AreOver g.D.Digester.address (all_chunks c.self.inside.base) c.clear.new.self.pages l in
    subst P (sym c.cut.ensures)
    (over_none g.D.Digester.address (all_chunks c.self.inside.base) c.self.inside.region.pages c.clear.new.self.pages c.self.inside.index.placed c.self.invariant c.clear.ensures.pages)

pub returns-clause-chunks : goal.returns-clause-chunks
returns-clause-chunks g c = same_parts _ _ _ _ (ap (λ (d : Drafting). d.chunks.base) c.self.view_is) (ap (chunks_in c.clear.new.self.pages) c.cut.ensures)
