use Rattle.commit_graph.proofs.StandingLemmas.{commits_follow}
use Rattle.commit_graph.proofs.laws.law_of_standing_commits.Goals as goal

pub returns : goal.returns
returns c = commits_follow c.law_of_databases.ensures
