use Rattle.prolly_tree.proofs.One.{trees_are_one}
use Rattle.prolly_tree.proofs.tree_laws.law_of_addresses.Goals as goal

pub returns : goal.returns
returns c = trees_are_one
