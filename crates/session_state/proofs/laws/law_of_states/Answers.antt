use Rattle.session_state.proofs.StateLemmas.{states_follow}
use Rattle.session_state.proofs.laws.law_of_states.Goals as goal

pub returns : goal.returns
returns c = states_follow c.law_of_chunks.ensures c.law_of_segments.ensures c.law_of_databases.ensures c.law_of_sameness.ensures c.law_of_standing_commits.ensures
