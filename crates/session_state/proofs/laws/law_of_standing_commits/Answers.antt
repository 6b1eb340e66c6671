use Rattle.session_state.proofs.CommitLemmas.{commits_follow}
use Rattle.session_state.proofs.laws.law_of_standing_commits.Goals as goal

pub returns : goal.returns
returns c = commits_follow c.law_of_chunks.ensures c.law_of_standing_commits.ensures c.law_of_sameness.ensures
