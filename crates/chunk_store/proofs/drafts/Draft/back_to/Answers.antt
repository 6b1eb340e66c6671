use Rattle.std.proofs.Common.{List, take, ap, sym, ◌∙◌, subst}
use Rattle.chunk_store.specs.declared.index.Placed.{Placed}
use Rattle.chunk_store.specs.Drafts.{Drafting}
use Rattle.chunk_store.specs.Placing.{chunks_in, AreOver}
use Rattle.chunk_store.proofs.DraftLemmas.{same_parts, over_cut, cut_is, taken_back}
use Rattle.chunk_store.specs.Stores.{all_chunks}
use Rattle.chunk_store.proofs.drafts.Draft.back_to.Goals as goal

pub invariant_of-self : goal.invariant_of-self
invariant_of-self g c =
    let P : List Placed → Type 0 = λ l. AreOver g.D.Digester.address (all_chunks c.self.inside.base) c.back_to.new.self.pages l in
    subst P (sym c.cut.ensures)
    (over_cut g.D.Digester.address (all_chunks c.self.inside.base) c.self.inside.region.pages c.back_to.new.self.pages c.self.inside.index.placed
    c.args.mark.own c.at-first.result c.self.invariant c.back_to.ensures.stays c.back_to.ensures.back c.at-first.ensures.at)

pub returns-then-mark-len-clause-chunks : goal.returns-then-mark-len-clause-chunks
returns-then-mark-len-clause-chunks g c =
    let own = ap (chunks_in c.back_to.new.self.pages) c.cut.ensures
    ∙ cut_is g.D.Digester.address (all_chunks c.self.inside.base) c.self.inside.region.pages c.back_to.new.self.pages c.self.inside.index.placed
    c.args.mark.own c.at-first.result c.self.invariant c.back_to.ensures.stays c.at-first.ensures.at
    ∙ ap (λ (d : Drafting). take c.args.mark.own d.chunks.own) c.self.view_is in
    same_parts _ _ _ _ (ap (λ (d : Drafting). d.chunks.base) c.self.view_is) own

pub returns-then-mark-len-clause-taken : goal.returns-then-mark-len-clause-taken
returns-then-mark-len-clause-taken g c =
    taken_back g.D.Digester.address (all_chunks c.self.inside.base) c.self.inside.region.pages c.back_to.new.self.pages c.self.inside.index.placed _
    c.args.mark.own c.at-first.result _ _ c.self.invariant c.back_to.ensures.stays c.back_to.ensures.back c.at-first.ensures.at
    c.tell.ensures c.back_to.ensures.taken c.cut.ensures
