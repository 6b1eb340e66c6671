use Rattle.check_laws.proofs.Sharing.{shared_keeps}
use Rattle.check_laws.proofs.laws.law_of_shared.Goals as goal

pub returns : goal.returns
returns c = shared_keeps
