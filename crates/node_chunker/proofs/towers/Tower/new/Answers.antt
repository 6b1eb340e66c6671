use Rattle.std.proofs.Common.{List, [], ◌∷◌, ap, subst, sym, ◌∙◌}
use Rattle.tuple_codec.specs.Nodes.{Item}
use Rattle.node_chunker.specs.Growth.{IsTower}
use Rattle.node_chunker.proofs.GrowthLemmas.{tower_begins}
use Rattle.node_chunker.proofs.towers.Tower.new.Goals as goal

pub returns : goal.returns
returns c address chunks =
    let P : List (List Item) → Type 0 = λ l. IsTower address chunks l [] in
    let empty : List (List Item) = [] in
    subst P (sym (ap (λ l. l ∷ c.in_ok-with_capacity.field-0.items) c.in_ok-new.ensures ∙ ap (λ l. [] ∷ l) c.in_ok-with_capacity.ensures.items)) (tower_begins address chunks)
