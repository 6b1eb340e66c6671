use Rattle.std.specs.Prelude.{[]}
use Rattle.prolly_tree.proofs.Cuts.{cut_apart}
use Rattle.prolly_tree.proofs.tree_laws.law_of_cutting.Goals as goal

pub returns : goal.returns
returns c = λ address level items more over. cut_apart address level [] items more over
