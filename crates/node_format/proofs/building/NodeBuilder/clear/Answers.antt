use Rattle.std.proofs.Common.{◌≡◌, ◌∷◌, List, [], length, ap, ◌∙◌, arith}
use Rattle.tuple_codec.specs.Nodes.{Item, Node}
use Rattle.node_format.proofs.BuildLemmas.{built_none, headed_none, none_after}
use Rattle.node_format.proofs.building.NodeBuilder.clear.Goals as goal

pub invariant_of-self : goal.invariant_of-self
invariant_of-self c =
    built_none c.self.inside.level c.put_header.new.bytes.items
    (headed_none c.self.inside.level c.self.inside.bytes.items c.truncate.new.self.items c.put_header.new.bytes.items c.truncate.ensures.items c.put_header.ensures)

pub returns : goal.returns
returns c =
    let made : List Item → Node = λ l. record { level = c.self.inside.level; items = l } in
    let none : Node → Node = λ n. record { level = n.level; items = [] } in
    ap made (none_after c.self.inside.level c.put_header.new.bytes.items) ∙ ap none c.self.view_is
