use Rattle.prolly_tree.proofs.Standing.{trees_lead}
use Rattle.prolly_tree.proofs.tree_laws.law_of_rows.Goals as goal

pub returns : goal.returns
returns c = trees_lead
