use Rattle.prolly_tree.proofs.Standing.{trees_have_roots}
use Rattle.prolly_tree.proofs.tree_laws.law_of_roots.Goals as goal

pub returns : goal.returns
returns c = trees_have_roots
