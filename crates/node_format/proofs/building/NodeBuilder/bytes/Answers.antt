use Rattle.std.proofs.Common.{◌≡◌, ap, ◌∙◌, arith}
use Rattle.tuple_codec.specs.Nodes.{Node, node_bytes}
use Rattle.node_format.proofs.BuildLemmas.{whole}
use Rattle.node_format.proofs.building.NodeBuilder.bytes.Goals as goal

pub returns : goal.returns
returns c =
    c.deref.ensures.value ∙ whole c.self.inside.level c.self.inside.count c.self.inside.bytes.items c.self.inside.key_start c.self.inside.key_size c.self.invariant
    ∙ ap node_bytes c.self.view_is
