use Rattle.session_state.proofs.RecordLemmas.{records_follow}
use Rattle.session_state.proofs.laws.law_of_records.Goals as goal

pub returns : goal.returns
returns c = records_follow c.law_of_databases.ensures c.law_of_sameness.ensures
