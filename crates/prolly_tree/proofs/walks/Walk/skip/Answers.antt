use Rattle.std.proofs.Common.{drop, ap, sym, ◌∙◌, subst}
use Rattle.chunk_store.specs.Drafts.{chunks_of}
use Rattle.prolly_tree.specs.Walks.{CanWalk}
use Rattle.prolly_tree.specs.Fronts.{Front, Walking, front_of}
use Rattle.prolly_tree.proofs.WalkLemmas.{skip_can}
use Rattle.prolly_tree.proofs.FrontLemmas.{skip_front}
use Rattle.prolly_tree.proofs.walks.Walk.skip.Goals as goal

pub invariant_of-self : goal.invariant_of-self
invariant_of-self g c =
    let chunks = chunks_of c.self.inside.draft.now.chunks in
    record {
      can = c.settle.ensures.can chunks (subst (CanWalk chunks) (sym c.skip.ensures) (skip_can chunks c.self.inside.path c.self.invariant.can));
      settled = c.settle.ensures.settled;
    }

pub returns : goal.returns
returns g c =
    ap (λ (f : Front). record { parts = c.self.inside.draft.now.chunks; front = f })
    (c.settle.ensures.front ∙ ap front_of c.skip.ensures ∙ skip_front c.self.inside.path c.self.invariant.settled)
    ∙ ap (λ (w : Walking). record { parts = w.parts; front = drop 1 w.front }) c.self.view_is
