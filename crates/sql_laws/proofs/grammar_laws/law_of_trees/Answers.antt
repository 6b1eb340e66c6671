use Rattle.sql_laws.proofs.Sound.{reads_trees}
use Rattle.sql_laws.proofs.grammar_laws.law_of_trees.Goals as goal

pub returns : goal.returns
returns c = reads_trees
