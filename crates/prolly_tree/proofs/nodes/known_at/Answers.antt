use Rattle.std.proofs.Common.{◌∙◌}
use Rattle.tuple_codec.proofs.Options.{some_is}
use Rattle.prolly_tree.proofs.nodes.known_at.Goals as goal

pub of-requires : goal.of-requires
of-requires g c =
    (c.requires.0, c.requires.1.is_node, some_is _ _ (c.in-Some.ensures ∙ c.requires.1.found))

pub returns : goal.returns
returns g c = λ node stored. c.of.ensures node stored.is_node (some_is _ _ (c.in-Some.ensures ∙ stored.found))
