use Rattle.commit_graph.proofs.CommitLemmas.{one_spelling}
use Rattle.commit_graph.proofs.laws.law_of_commits.Goals as goal

pub returns : goal.returns
returns c = one_spelling
