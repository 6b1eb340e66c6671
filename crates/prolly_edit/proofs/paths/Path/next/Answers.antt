use Rattle.std.proofs.Common.{◌∷◌, List, ap, sym, ◌∙◌, arith}
use Rattle.tuple_codec.specs.Nodes.{Node}
use Rattle.prolly_edit.specs.Names.{item_of}
use Rattle.prolly_tree.specs.Fronts.{Front}
use Rattle.prolly_edit.specs.Fronts.{front_of}
use Rattle.prolly_edit.proofs.FrontLemmas.{taken_first, taken_last}
use Rattle.prolly_edit.proofs.paths.Path.next.Goals.{then-not-is_empty, else-not-is_empty}
use Rattle.prolly_edit.proofs.paths.Path.next.Goals as goal

pub push_reserved-requires : goal.push_reserved-requires
push_reserved-requires g c =
    let same = c.pop.ensures.capacity in
    let one = c.in-Some.ensures.len in
    let fits = c.len-depth.ensures.fits in
    (omega arith, omega (arith, same, one, fits))

pub returns-after-not-is_empty-clause-front : goal.returns-after-not-is_empty-clause-front
returns-after-not-is_empty-clause-front g c =
    let name = c.in_ok-name-in-Some in
    let now = c.next.new.self in
    let was = sym c.self.view_is ∙ ap front_of c.in-Some.ensures.items in
    elim c.if-not-is_empty.branch [
      | then-not-is_empty w ↦
          was ∙ taken_first c.pop.new.self.items c.in-Some.step now (item_of name.name) c.level-level.result name.ensures.items c.level-level.ensures name.ensures.level
          ∙ ap (λ (l : List Node). (c.level-level.result, item_of name.name) ∷ front_of l) (sym w.push_reserved.ensures.items)
          ∙ ap (λ (f : Front). (c.level-level.result, item_of name.name) ∷ f) (sym w.self-is)
      | else-not-is_empty w ↦
          was ∙ taken_last c.pop.new.self.items c.in-Some.step now (item_of name.name) c.level-level.result name.ensures.items c.level-level.ensures
          (sym c.is_empty.ensures ∙ w.if-not-is_empty.false)
          ∙ ap (λ (f : Front). (c.level-level.result, item_of name.name) ∷ f) (sym w.self-is)
    ]
