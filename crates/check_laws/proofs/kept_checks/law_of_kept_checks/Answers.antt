use Rattle.check_laws.proofs.Checks.{keeps_checks}
use Rattle.check_laws.proofs.kept_checks.law_of_kept_checks.Goals as goal

pub returns : goal.returns
returns c = keeps_checks
