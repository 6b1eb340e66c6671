use Rattle.node_format.proofs.NodeLemmas.{one_spelling}
use Rattle.node_format.proofs.laws.law_of_spelling.Goals as goal

pub returns : goal.returns
returns c = one_spelling
