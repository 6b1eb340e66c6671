use Rattle.std.proofs.Common.{refl, sym, subst, List, ◌∷◌, []}
use Rattle.commit_graph.specs.Walks.{AreRanks, Waits}
use Rattle.commit_graph.specs.declared.walks.Rank.{Rank}
use Rattle.commit_graph.proofs.WalkLemmas.{begins}
use Rattle.commit_graph.proofs.walks.AncestorWalk.new.Goals as goal

pub returns : goal.returns
returns g c = λ commits stand known.
    let none : AreRanks commits [] = record { each = refl; rise = refl } in
    let waits : Waits commits (c.args.address.now.0 ∷ []) c.new.result.keys c.put.new.self =
    c.in_ok-put.ensures.ok commits stand (subst (AreRanks commits) (sym c.new.ensures.empty) none) known in
    begins c.law_of_ancestors.ensures commits stand.grown c.args.address.now.0 c.put.new.self
    (subst (λ (ks : List Rank). Waits commits (c.args.address.now.0 ∷ []) ks c.put.new.self) c.new.ensures.empty waits)
