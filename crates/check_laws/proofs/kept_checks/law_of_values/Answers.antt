use Rattle.check_laws.proofs.CheckValues.{keeps_values}
use Rattle.check_laws.proofs.kept_checks.law_of_values.Goals as goal

pub returns : goal.returns
returns c = keeps_values
