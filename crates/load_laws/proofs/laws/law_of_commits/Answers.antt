use Rattle.load_laws.proofs.CommitLemmas.{rows_meet}
use Rattle.load_laws.proofs.laws.law_of_commits.Goals as goal

pub returns : goal.returns
returns c = rows_meet
