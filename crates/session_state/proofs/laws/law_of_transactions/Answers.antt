use Rattle.session_state.proofs.TransactionLemmas.{transactions_follow}
use Rattle.session_state.proofs.laws.law_of_transactions.Goals as goal

pub returns : goal.returns
returns c = transactions_follow c.law_of_databases.ensures c.law_of_drafts.ensures c.law_of_standing_commits.ensures
