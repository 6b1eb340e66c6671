use Rattle.std.proofs.Common.{sym, ◌∙◌}
use Rattle.tuple_codec.proofs.Options.{some_is}
use Rattle.node_format.proofs.NodeLemmas.{one_spelling}
use Rattle.prolly_tree.proofs.nodes.node_at.Goals as goal

pub returns : goal.returns
returns g c = λ node stored. one_spelling c.in-Ok.node node c.in-Ok.ensures.node stored.is_node (sym c.in-Ok.ensures.bytes ∙ some_is _ _ (c.in-Some.ensures ∙ stored.found))
