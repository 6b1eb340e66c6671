use Rattle.keep_laws.proofs.SharedLemmas.{shared_keep}
use Rattle.keep_laws.proofs.state_laws.shared_keeps.Goals as goal

pub returns : goal.returns
returns c = shared_keep
