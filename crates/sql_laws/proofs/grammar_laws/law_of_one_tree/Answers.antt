use Rattle.sql_laws.proofs.Trees.{has_one_tree}
use Rattle.sql_laws.proofs.grammar_laws.law_of_one_tree.Goals as goal

pub returns : goal.returns
returns c = has_one_tree
