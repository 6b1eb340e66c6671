use Rattle.std.proofs.Common.{◌≡◌, ℕ, List, [], sym, ap, ◌∙◌, subst, append-nil}
use Rattle.tuple_codec.specs.Nodes.{Node}
use Rattle.prolly_tree.specs.Walks.{CanWalk, Left, rows_left}
use Rattle.prolly_tree.specs.Fronts.{front_of}
use Rattle.prolly_tree.proofs.FrontLemmas.{up_front}
use Rattle.prolly_tree.proofs.WalkLemmas.{none_first, up_can, up_rows}
use Rattle.prolly_tree.proofs.paths.Path.settle.Goals as goal

pub ended-preserved : goal.ended-preserved
ended-preserved c =
    let inside : Left = record { here = c.self.inside.here; above = c.self.inside.above.items; room = c.self.inside.above.capacity } in
    let same : inside ≡ c.ended.self = c.self.view_is in
    let over : inside.here.items ≡ [] = ap (λ (l : Left). l.here.items) same ∙ none_first _ _ c.head.result c.head.ensures c.ended-test.ensures in
    record {
      kept = λ chunks. up_rows chunks inside c.pop.new.self.items c.in-Some.step over c.in-Some.ensures.items ∙ ap (rows_left chunks) same ∙ c.ended.invariant.kept chunks;
      front = up_front inside c.pop.new.self.items c.in-Some.step over c.in-Some.ensures.items ∙ ap front_of same ∙ c.ended.invariant.front;
      can = λ chunks can.
          subst (λ (r : ℕ). CanWalk chunks (record { here = c.in-Some.step; above = c.pop.new.self.items; room = r })) (sym c.pop.ensures.capacity)
          (up_can chunks inside c.pop.new.self.items c.in-Some.step c.in-Some.ensures.items (subst (CanWalk chunks) (sym same) (c.ended.invariant.can chunks can)));
    }

pub returns-in-None-clause-can : goal.returns-in-None-clause-can
returns-in-None-clause-can c = λ chunks can.
    let inside : Left = record { here = c.self.inside.here; above = c.self.inside.above.items; room = c.self.inside.above.capacity } in
    let same : inside ≡ c.ended.self = c.self.view_is in
    let items : c.self.inside.above.items ≡ c.pop.new.self.items = c.in-None.ensures.items ∙ append-nil c.pop.new.self.items in
    subst (λ (l : List Node). CanWalk chunks (record { here = c.self.inside.here; above = l; room = c.pop.new.self.capacity })) items
    (subst (λ (r : ℕ). CanWalk chunks (record { here = c.self.inside.here; above = c.self.inside.above.items; room = r })) (sym c.pop.ensures.capacity)
    (subst (CanWalk chunks) (sym same) (c.ended.invariant.can chunks can)))
