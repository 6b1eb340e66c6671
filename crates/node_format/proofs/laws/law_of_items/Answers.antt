use Rattle.node_format.proofs.NodeLemmas.{items_found}
use Rattle.node_format.proofs.laws.law_of_items.Goals as goal

pub returns : goal.returns
returns c = items_found
