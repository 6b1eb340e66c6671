use Rattle.check_laws.proofs.Changing.{changes_keep}
use Rattle.check_laws.proofs.laws.law_of_changes.Goals as goal

pub returns : goal.returns
returns c = changes_keep c.law_of_sameness.ensures
